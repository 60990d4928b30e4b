-- What becomes of an order with a file.
use Rattle.std.specs.Prelude.{◌≡◌, ℕ, ◌<◌, ◌≤◌, length, Some, None, Result, Ok, Err}
use Rattle.cdb_source.specs.declared.source.Source.{Source}
use Rattle.cdb_tiff_base.specs.Causes.{cause_of}
use Rattle.cdb_tiff_base.specs.Numbers.{Bytes}
use Rattle.cdb_tiff_base.specs.declared.tiff_error.TiffError.{TiffError}
use Rattle.cdb_model.specs.Grammar.{FileSource}
use Rattle.cdb_model.specs.ImageFiles.{HasImage, IsUnfit, SpellsNone}
use Rattle.cdb_model.specs.Maps.{Content}
use Rattle.cdb_model.specs.Spelled.{SpellsLoaded}
use Rattle.cdb_engine.specs.declared.errors.LoadError.{LoadError}
use Rattle.cdb_engine.specs.declared.errors.LoadError.TheVariants.{Memory, Shelf, Absent, Big, Input, Range}

-- a file that is there and has so many bytes, more than 67,108,864
pub record IsBigOf (size : ℕ) (content : Content) : Type 0 where
  pub bytes : Bytes
  pub there : content ≡ Some bytes
  pub size_is : length bytes ≡ size
  pub big : 67108864 < size

-- a file that is there, isn't big, and for this cause isn't read
pub record IsRefusedFile (error : TiffError) (content : Content) : Type 0 where
  pub bytes : Bytes
  pub there : content ≡ Some bytes
  pub small : length bytes ≤ 67108864
  pub caused : cause_of bytes ≡ Some error

-- a file that is read, with which words spell a source
pub record IsSpelled (w : FileSource) (content : Content) (source : Source) : Type 0 where
  pub bytes : Bytes
  pub image : HasImage content bytes
  pub spelled : SpellsLoaded w bytes source

-- what a file's content makes of words
abbrev pub IsLoaded : FileSource → Content → Result Source LoadError → Type 0
IsLoaded w content (Ok source) = IsSpelled w content source
IsLoaded w content (Err Memory) = Unit {0}
IsLoaded w content (Err Shelf) = Unit {0}
IsLoaded w content (Err Absent) = content ≡ None
IsLoaded w content (Err (Big size)) = IsBigOf size content
IsLoaded w content (Err (Input error)) = IsRefusedFile error content
IsLoaded w content (Err Range) = IsUnfit w content

-- some content, which is the file where the shelf tells, makes this of words
pub record LoadOutcome (Tells : Type 0) (file : Content) (w : FileSource) (result : Result Source LoadError)
    : Type 0 where
  pub content : Content
  pub told : Tells → content ≡ file
  pub loaded : IsLoaded w content result

-- ---- its two parts

-- the whole file was read, where the shelf tells
pub record ReadsAll (Tells : Type 0) (file : Content) (bytes : Bytes) : Type 0 where
  pub told : Tells → file ≡ Some bytes
  pub small : length bytes ≤ 67108864

-- why a file wasn't read
abbrev pub LoadCause : Content → LoadError → Type 0
LoadCause content Memory = Unit {0}
LoadCause content Shelf = Unit {0}
LoadCause content Absent = content ≡ None
LoadCause content (Big size) = IsBigOf size content
LoadCause content _ = ⊥

-- some content, which is the file where the shelf tells, is the reason
pub record ReadsNot (Tells : Type 0) (file : Content) (error : LoadError) : Type 0 where
  pub content : Content
  pub told : Tells → content ≡ file
  pub unread : LoadCause content error

-- what the bytes of a file make of words
abbrev pub IsMadeOf : FileSource → Bytes → Result Source LoadError → Type 0
IsMadeOf w bytes (Ok source) = (cause_of bytes ≡ None) × SpellsLoaded w bytes source
IsMadeOf w bytes (Err Memory) = Unit {0}
IsMadeOf w bytes (Err (Input error)) = cause_of bytes ≡ Some error
IsMadeOf w bytes (Err Range) = (cause_of bytes ≡ None) × SpellsNone (SpellsLoaded w bytes)
IsMadeOf w bytes (Err _) = ⊥
