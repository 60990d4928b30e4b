-- How a cause and its place are written.
use Rattle.std.specs.Prelude.{ℕ, List, [], ◌++◌, ◌∷◌, codes}
use Rattle.std.specs.Fmt.{decimal}
use Rattle.cdb_tiff_base.specs.declared.tiff_cause.TiffCause.{TiffCause}
use Rattle.cdb_tiff_base.specs.declared.tiff_cause.TiffCause.TheVariants as cause
use Rattle.cdb_tiff_base.specs.declared.tiff_error.TiffError.{TiffError}

-- the name of a cause, and the tag that follows that of `absent`
abbrev pub name_of : TiffCause → List ℕ
name_of cause.NotTiff = codes "nottiff"
name_of cause.BigTiff = codes "bigtiff"
name_of cause.Directory = codes "directory"
name_of cause.Order = codes "order"
name_of cause.Kind = codes "kind"
name_of cause.Tiled = codes "tiled"
name_of (cause.Absent tag) = codes "absent"
name_of cause.Compressed = codes "compressed"
name_of cause.Samples = codes "samples"
name_of cause.Float = codes "float"
name_of cause.Bits = codes "bits"
name_of cause.Size = codes "size"
name_of cause.Strips = codes "strips"
name_of cause.Short = codes "short"

abbrev pub tag_text : TiffCause → List ℕ
tag_text (cause.Absent tag) = 32 ∷ decimal tag
tag_text _ = []

-- the word of a cause; after `absent` stands the tag
abbrev pub word_of : TiffCause → List ℕ
word_of c = name_of c ++ tag_text c

-- an error: the cause's word, a blank, and the place
abbrev pub error_text : TiffError → List ℕ
error_text e = word_of e.cause ++ 32 ∷ decimal e.at
