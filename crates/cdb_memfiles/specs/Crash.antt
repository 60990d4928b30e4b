-- What a crash leaves.
use Rattle.std.specs.Prelude.{◌≡◌, ◌⊎◌, ◌/◌, [], ◌∷◌, length, take, None, Some}
use Rattle.cdb_model.specs.Maps.{Text, Content, FileMap}
use Rattle.cdb_files.specs.Disk.{State, Possible}
use Rattle.cdb_memfiles.specs.declared.pick.Pick.{Pick}
use Rattle.cdb_memfiles.specs.declared.pick.Pick.TheVariants.{Newest, Oldest, Torn}

-- The first half of a file.
abbrev pub half : Content → Content
half None = None
half (Some bytes) = Some (take (length bytes / 2) bytes)

-- The first possibility, or absence where anything may be left.
abbrev pub first_possible : Possible → Content
first_possible None = None
first_possible (Some []) = None
first_possible (Some (v ∷ rest)) = v

-- The present content, or its first half where anything may be left.
abbrev pub torn_possible : Content → Possible → Content
torn_possible now None = half now
torn_possible now (Some list) = now

-- The map that a crash leaves.
unfoldable pub picked : Pick → State → FileMap
picked Newest s q = s.present q
picked Oldest s q = first_possible (s.may q)
picked Torn s q = torn_possible (s.present q) (s.may q)

-- A crash leaves each path as it is at present, and nothing else.
abbrev pub IsSettled : State → Type 0
IsSettled s = (q : Text) → s.may q ≡ Some (s.present q ∷ [])

-- A disk after a crash: it has the picked map, a crash leaves nothing else, and the made folders stay.
pub record IsCrashed (pick : Pick) (old new : State) : Type 0 where
  pub map : new.present ≡ picked pick old
  pub only : IsSettled new
  pub made : new.made ≡ old.made

-- A disk with the made folders alone.
abbrev pub only_made : State → State
only_made s = record { present = λ _. None; may = λ _. Some (None ∷ []); made = s.made }

abbrev pub or_else : Content → Content → Content
or_else None v = v
or_else (Some bytes) v = Some bytes

-- Each path has what was picked for it, or waits for it and is absent.
abbrev pub IsPicked : FileMap → FileMap → FileMap → Type 0
IsPicked goal rest present = (q : Text)
    → ((rest q ≡ goal q) × (present q ≡ None)) ⊎ ((rest q ≡ None) × (present q ≡ goal q))
