-- The sum of the values of tiles.
use Rattle.std.specs.Prelude.{◌≡◌, ℕ, ℤ, pos, ◌+ℤ◌, List, [], ◌∷◌, ◌++◌, map, unwrap_or}
use Rattle.std.specs.List.{range_with_len}
use Rattle.cdb_grid.specs.Tiles.{tile_side}
use Rattle.cdb_grid.specs.declared.tile.Tile.{Tile}
use Rattle.cdb_source.specs.declared.kind.Kind.{Kind}
use Rattle.cdb_source.specs.declared.source.Source.{Source}
use Rattle.cdb_source.specs.Reached.{kind_of, tile_value}
use Rattle.cdb_cut.specs.OneTile.{IsFrameOf}
use Rattle.cdb_source.specs.Sample.{value_of}
use Rattle.cdb_model.specs.Publications.{Publication, sources_of, Touches}

abbrev pub sum_of : List ℤ → ℤ
sum_of [] = pos 0
sum_of (value ∷ values) = value +ℤ sum_of values

-- ---- a tile

-- the values of a row of a tile, counted from the south; a place without a value adds nothing
abbrev pub row_sum : List Source → Tile → ℕ → ℤ
row_sum ss t row = sum_of (map (λ col. unwrap_or (tile_value ss t row col) (pos 0)) (range_with_len 0 (tile_side t)))

-- the values of a tile that takes them from these sources
unfoldable pub tile_sum : List Source → Tile → ℤ
tile_sum ss t = sum_of (map (λ row. row_sum ss t row) (range_with_len 0 (tile_side t)))

-- what the numbers of a frame come to, by the kind of its family
abbrev pub number_value : Kind → ℤ → ℤ
number_value kind number = unwrap_or (value_of kind number) (pos 0)

abbrev pub numbers_sum : Kind → List ℤ → ℤ
numbers_sum kind numbers = sum_of (map (λ number. number_value kind number) numbers)

-- where the numbers are those of the frame of a tile of the kind, the sum is the tile's
abbrev pub SumsTiles : Kind → List ℤ → ℤ → Type 0
SumsTiles kind numbers sum = (ss : List Source) (t : Tile) → kind ≡ kind_of t.family → IsFrameOf ss t numbers
    → sum ≡ tile_sum ss t

-- ---- tiles

abbrev pub tiles_sum : List Source → List Tile → ℤ
tiles_sum ss tiles = sum_of (map (λ t. tile_sum ss t) tiles)

-- the tiles that publications touch after earlier ones, each with the values of its own version
abbrev pub IsSum : List Publication → List Publication → ℤ → Type 0
IsSum earlier [] sum = sum ≡ pos 0
IsSum earlier (p ∷ list) sum =
    (tiles : List Tile) × (rest : ℤ) × (Touches p tiles × IsSum (earlier ++ p ∷ []) list rest
    × (sum ≡ tiles_sum (sources_of (earlier ++ p ∷ [])) tiles +ℤ rest))
