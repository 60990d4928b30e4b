-- A file that is written or read in one piece.
use Rattle.std.specs.Prelude.{◌≡◌, ◌≢◌, ℕ, ◌≤◌, List, [], ◌∷◌, length, take, None, Some}
use Rattle.cdb_model.specs.Maps.{Text, Content, FileMap, put, size_of}
use Rattle.cdb_files.specs.Disk.{State, Allows, Fails, FailsMakeDir, after_create, after_make_dir}
use Rattle.cdb_files.specs.Moments.{AddsOnly}
use Rattle.cdb_files.specs.declared.whole.ReadSize.{ReadSize}
use Rattle.cdb_files.specs.declared.whole.ReadSize.TheVariants.{Read, Other}

-- The file has these bytes so far, and a crash may leave anything there.
unfoldable pub after_pieces : Text → List ℕ → State → State
after_pieces path bytes s = record s { present = put s.present path (Some bytes); may = put s.may path None }

-- The file has these bytes and is synced: a crash leaves it so, or absent.
unfoldable pub after_fill : Text → List ℕ → State → State
after_fill path bytes s =
    record s { present = put s.present path (Some bytes); may = put s.may path (Some (None ∷ Some bytes ∷ [])) }

-- The same, with the folder made in which it lies.
unfoldable pub after_write : Text → Text → List ℕ → State → State
after_write folder path bytes s = after_fill path bytes (after_make_dir folder s)

-- What the writing of a file leaves that failed: what a failed `create` leaves, or a first part of the bytes is there,
-- and a crash may leave anything at the path.
pub data FailsFill (path : Text) (bytes : List ℕ) (old new : State) : Type 0 where
  in_create : Fails old (after_create path old) new → FailsFill path bytes old new
  after_part : (n : ℕ) → n ≤ length bytes → new ≡ after_pieces path (take n bytes) old → FailsFill path bytes old new

-- The same, where the folder is to be made first.
pub data FailsWrite (folder path : Text) (bytes : List ℕ) (old new : State) : Type 0 where
  in_make_dir : FailsMakeDir old (after_make_dir folder old) new → FailsWrite folder path bytes old new
  in_fill : FailsFill path bytes (after_make_dir folder old) new → FailsWrite folder path bytes old new

-- An image but at one path, which may have anything.
abbrev pub IsImageBut : Text → State → FileMap → Type 0
IsImageBut path s m = (q : Text) → q ≢ path → Allows (s.may q) (m q)

-- Two states that differ at one path, and in their folders, alone.
pub record ChangesOnly (path : Text) (old new : State) : Type 0 where
  pub present : (q : Text) → q ≢ path → new.present q ≡ old.present q
  pub may : (q : Text) → q ≢ path → new.may q ≡ old.may q

-- A run of calls that changes one path alone, at each of its moments.
pub record WritesOnly {D : Type 0} (clock : D → ℕ) (since : D → ℕ → FileMap → Type 0) (state : D → State) (path : Text)
    (old new : D) : Type 0 where
  pub only : ChangesOnly path (state old) (state new)
  pub time : AddsOnly clock since old new (IsImageBut path (state old))

-- The whole file was read, or it has another size than the one that was asked for.
abbrev pub IsWholeRead : Content → List ℕ → List ℕ → ReadSize → Type 0
IsWholeRead content old new Read = content ≡ Some new
IsWholeRead content old new (Other size) = (size ≡ size_of content) × (new ≡ old)

-- Another size is not the one that was asked for.
abbrev pub IsOtherThan : ℕ → ReadSize → Type 0
IsOtherThan len Read = Unit {0}
IsOtherThan len (Other size) = size ≢ Some len

-- Nothing is read from a file of another size.
abbrev pub ReadsIfWhole : ℕ → ℕ → ReadSize → Type 0
ReadsIfWhole before now Read = Unit {0}
ReadsIfWhole before now (Other size) = now ≡ before
