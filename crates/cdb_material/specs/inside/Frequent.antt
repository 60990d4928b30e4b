-- Inside the crate: the more frequent of two values, one after the other.
use Rattle.std.specs.Prelude.{ℤ, List, [], ◌∷◌, filter_map}
use Rattle.cdb_material.specs.declared.four.Four.{Four}

-- those of four values that are there
abbrev pub values_of : Four → List ℤ
values_of four = filter_map (λ v. v) (four.south_west ∷ four.south_east ∷ four.north_west ∷ four.north_east ∷ [])
