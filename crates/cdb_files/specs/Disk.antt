-- The states of a disk, and what each call makes of one.
use Rattle.std.specs.Prelude.{◌≡◌, ℕ, ◌≤◌, ◌||◌, Bool, false, ◌⊎◌, List, [], ◌∷◌, ◌++◌, length, take, Option, None, Some, IsTrue, if◌then◌else◌}
use Rattle.std.specs.Str.{bytes_eq}
use Rattle.cdb_model.specs.Maps.{Text, Content, FileMap, put, folder_above, is_at_or_above}

-- What a crash may leave at a path: anything at all (none), or one of a list of possibilities.
abbrev pub Possible : Type 0
Possible = Option (List Content)

abbrev pub IsOneOf : List Content → Content → Type 0
IsOneOf [] v = ⊥
IsOneOf (x ∷ xs) v = (v ≡ x) ⊎ IsOneOf xs v

-- A crash may leave this content.
abbrev pub Allows : Possible → Content → Type 0
Allows None v = Unit {0}
Allows (Some xs) v = IsOneOf xs v

-- The present map, what a crash may leave at each path, and the folders that are made.
pub record State : Type 0 where
  pub present : FileMap
  pub may : Text → Possible
  pub made : Text → Bool

-- A disk without files and without folders.
abbrev pub empty_disk : State
empty_disk = record { present = λ path. None; may = λ path. Some (None ∷ []); made = λ folder. false }

-- A map that a crash may leave: at each path one of its possibilities.
abbrev pub IsImage : State → FileMap → Type 0
IsImage s m = (q : Text) → Allows (s.may q) (m q)

-- The root is there from the start.
abbrev pub IsMade : State → Text → Type 0
IsMade s folder = (folder ≡ []) ⊎ IsTrue (s.made folder)

-- A crash leaves the path as it is at present, or absent.
abbrev pub IsSettledAt : State → Text → Type 0
IsSettledAt s path = (v : Content) → Allows (s.may path) v → (v ≡ None) ⊎ (v ≡ s.present path)

-- A file with a piece added at its end.
abbrev pub with_piece : List ℕ → Content → Content
with_piece piece None = None
with_piece piece (Some bytes) = Some (bytes ++ piece)

-- A synced file: anything becomes absence or the present bytes, and a list stays.
abbrev pub settled : Content → Possible → Possible
settled now None = Some (None ∷ now ∷ [])
settled now (Some xs) = Some xs

-- A path in a synced folder: a list, or anything where no file is present, becomes the present state alone.
abbrev pub after_sync : Content → Possible → Possible
after_sync now (Some xs) = Some (now ∷ [])
after_sync None None = Some (None ∷ [])
after_sync (Some bytes) None = None

-- One possibility more, at the end of a list.
abbrev pub added : Content → Possible → Possible
added v None = None
added v (Some xs) = Some (xs ++ v ∷ [])

-- The path is empty, and a crash may leave anything there.
unfoldable pub after_create : Text → State → State
after_create path s = record s { present = put s.present path (Some []); may = put s.may path None }

-- The piece is added, and a crash may leave anything there.
unfoldable pub after_append : Text → List ℕ → State → State
after_append path piece s =
    record s { present = put s.present path (with_piece piece (s.present path)); may = put s.may path None }

unfoldable pub after_sync_file : Text → State → State
after_sync_file path s = record s { may = put s.may path (settled (s.present path) (s.may path)) }

unfoldable pub after_sync_dir : Text → State → State
after_sync_dir folder s =
    record s { may = λ q. if bytes_eq (folder_above q) folder then after_sync (s.present q) (s.may q) else s.may q }

-- `to` has the bytes of `from`, which is absent. A crash may leave at `to` what it might before or these bytes, and at
-- `from` nothing or these bytes.
unfoldable pub after_rename : Text → Text → State → State
after_rename from to s = record s {
  present = put (put s.present to (s.present from)) from None;
  may = put (put s.may to (added (s.present from) (s.may to))) from (Some (None ∷ s.present from ∷ []));
}

unfoldable pub after_remove : Text → State → State
after_remove path s = record s { present = put s.present path None; may = put s.may path (added None (s.may path)) }

-- The folder and those above it are made.
unfoldable pub after_make_dir : Text → State → State
after_make_dir folder s = record s { made = λ q. s.made q || is_at_or_above q folder }

-- What a call leaves that would have led from `old` to `after` and failed: the one map or the other, no possibility
-- that neither had, and each path that the call doesn't change as it was.
pub record Fails (old after new : State) : Type 0 where
  pub present : (new.present ≡ old.present) ⊎ (new.present ≡ after.present)
  pub may : (q : Text) (v : Content) → Allows (new.may q) v → Allows (old.may q) v ⊎ Allows (after.may q) v
  pub stays : (q : Text) → after.may q ≡ old.may q → new.may q ≡ old.may q
  pub made : new.made ≡ old.made

-- A failed append may have added a first part of the piece.
abbrev pub FailsAppend : Text → List ℕ → State → State → Type 0
FailsAppend path piece old new = (n : ℕ) × (n ≤ length piece) × Fails old (after_append path (take n piece) old) new

-- A failed making of folders may have made some of them.
pub record FailsMakeDir (old after new : State) : Type 0 where
  pub present : new.present ≡ old.present
  pub may : new.may ≡ old.may
  pub kept : (q : Text) → IsTrue (old.made q) → IsTrue (new.made q)
  pub some : (q : Text) → IsTrue (new.made q) → IsTrue (after.made q)
