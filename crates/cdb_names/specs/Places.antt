-- What is told of a text that is no name or no path has one place, and of a tile's own name or path nothing is told.
use Rattle.std.specs.Prelude.{◌≡◌, ℕ}
use Rattle.cdb_grid.specs.declared.tile.Tile.{Tile}
use Rattle.cdb_model.specs.Names.{Text, VersionTile, name, name_fields, path, path_fields, FirstWrong}

-- the first wrong field of the same text begins at one place, among those of a name and among those of a path
abbrev pub OneWrongPlaceOfNames : Type 0
OneWrongPlaceOfNames = (text : Text) (p q : ℕ) → FirstWrong name_fields text p → FirstWrong name_fields text q → p ≡ q

abbrev pub OneWrongPlaceOfPaths : Type 0
OneWrongPlaceOfPaths = (text : Text) (p q : ℕ) → FirstWrong path_fields text p → FirstWrong path_fields text q → p ≡ q

-- the name of a tile, and the path of a version's tile, have no wrong field at any place
abbrev pub NamesHaveNoWrongPlace : Type 0
NamesHaveNoWrongPlace = (t : Tile) (place : ℕ) → FirstWrong name_fields (name t) place → ⊥

abbrev pub PathsHaveNoWrongPlace : Type 0
PathsHaveNoWrongPlace = (x : VersionTile) (place : ℕ) → FirstWrong path_fields (path x.version x.tile) place → ⊥
