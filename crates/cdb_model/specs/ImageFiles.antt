-- The file that a line names: whether it is there, isn't too big, is read as a TIFF file, and with the words spells a
-- source.
use Rattle.std.specs.Prelude.{◌≡◌, ◌≤◌, ◌<◌, length, Some, None}
use Rattle.cdb_source.specs.declared.source.Source.{Source}
use Rattle.cdb_tiff_base.specs.Causes.{cause_of}
use Rattle.cdb_tiff_base.specs.Numbers.{Bytes}
use Rattle.cdb_tiff_base.specs.declared.tiff_cause.TiffCause.{TiffCause}
use Rattle.cdb_tiff_base.specs.declared.tiff_error.TiffError.{TiffError}
use Rattle.cdb_model.specs.Grammar.{FileSource}
use Rattle.cdb_model.specs.Maps.{Content}
use Rattle.cdb_model.specs.Spelled.{SpellsLoaded}

-- no source is spelled
abbrev pub SpellsNone : (Source → Type 0) → Type 0
SpellsNone Spelled = (s : Source) → Spelled s → ⊥

-- the bytes of a file that is there, has at most 67,108,864 bytes, and is a TIFF file that is read
pub record HasImage (content : Content) (bytes : Bytes) : Type 0 where
  pub there : content ≡ Some bytes
  pub small : length bytes ≤ 67108864
  pub sound : cause_of bytes ≡ None

-- a file that is there and has more bytes
abbrev pub IsBig : Content → Type 0
IsBig None = ⊥
IsBig (Some bytes) = 67108864 < length bytes

-- a file that is there, isn't big, and for this cause isn't read
pub record IsBad (content : Content) (cause : TiffCause) : Type 0 where
  pub bytes : Bytes
  pub there : content ≡ Some bytes
  pub small : length bytes ≤ 67108864
  pub error : TiffError
  pub caused : cause_of bytes ≡ Some error
  pub cause_is : error.cause ≡ cause

-- a file that is read, of which no source of the words is made
pub record IsUnfit (w : FileSource) (content : Content) : Type 0 where
  pub bytes : Bytes
  pub image : HasImage content bytes
  pub none : SpellsNone (SpellsLoaded w bytes)
