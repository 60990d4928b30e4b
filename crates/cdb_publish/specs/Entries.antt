-- The tile entries of records.
use Rattle.std.specs.Prelude.{◌≡◌, ℕ, List, [], ◌∷◌, ◌++◌, length}
use Rattle.std.specs.List.{sum_by}
use Rattle.cdb_manifest.specs.declared.record_.Record.{Record}

abbrev pub entries_in : List Record → ℕ
entries_in records = sum_by (λ (r : Record). length r.tiles) records

-- One record more, of this version and with so many tiles.
pub record AddsRecord (version files : ℕ) (old new : List Record) : Type 0 where
  pub item : Record
  pub version_is : item.version ≡ version
  pub files_are : length item.tiles ≡ files
  pub new_is : new ≡ old ++ item ∷ []
