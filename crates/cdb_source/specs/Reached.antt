-- Which sources reach a tile, and which tiles a list of sources touches.
use Rattle.std.specs.Prelude.{◌≡◌, ℕ, ◌+◌, ◌<◌, ◌≤◌, ℤ, List, [], ◌∷◌, length, slice_get, AllPairs, Contains, ◌↔◌, Option, Some}
use Rattle.std.specs.declared.cmp.Ordering.TheVariants.{Less}
use Rattle.cdb_grid.specs.Order.{tile_cmp}
use Rattle.cdb_grid.specs.Units.{height_of}
use Rattle.cdb_grid.specs.Grid.{Place, IsCorner}
use Rattle.cdb_grid.specs.Tiles.{tile_height, element_corner, place_in, IsInTile}
use Rattle.cdb_grid.specs.declared.family.Family.{Family}
use Rattle.cdb_grid.specs.declared.family.Family.TheVariants.{Elev, Low, High, Mat}
use Rattle.cdb_grid.specs.declared.tile.Tile.{Tile}
use Rattle.cdb_source.specs.declared.kind.Kind.{Kind}
use Rattle.cdb_source.specs.declared.kind.Kind.TheVariants.{Elevation, Material}
use Rattle.cdb_source.specs.declared.head.SourceHead.{SourceHead}
use Rattle.cdb_source.specs.declared.source.Source.{Source}
use Rattle.cdb_source.specs.Sample.{IsInBox}
use Rattle.cdb_source.specs.Values.{elevation_of, low_of, high_of, material_of}

-- the kind of sources from which a family of tiles takes its values
abbrev pub kind_of : Family → Kind
kind_of Elev = Elevation
kind_of Low = Elevation
kind_of High = Elevation
kind_of Mat = Material

-- the height of a source's level
abbrev pub source_height : SourceHead → ℕ
source_height head = height_of head.level.number

-- a source reaches a tile: the kinds agree, its level is at least as fine as the tile's, and some place of its
-- level lies both in the tile and in its box
pub record Reaches (head : SourceHead) (t : Tile) : Type 0 where
  pub kind : head.kind ≡ kind_of t.family
  pub level : source_height head ≤ tile_height t
  pub corner : Place
  pub on_grid : IsCorner (source_height head) corner
  pub in_tile : IsInTile t (place_in t.family (source_height head) corner)
  pub in_box : IsInBox head (place_in t.family (source_height head) corner)

-- some source of a list reaches a tile
pub record Reached (heads : List SourceHead) (t : Tile) : Type 0 where
  pub number : ℕ
  pub head : SourceHead
  pub there : slice_get heads number ≡ Some head
  pub reaches : Reaches head t

-- a list has each tile of a set once, and no other
pub record ListsOnce (Member : Tile → Type 0) (tiles : List Tile) : Type 0 where
  pub exact : (t : Tile) → Contains tiles t ↔ Member t
  pub once : (i j : ℕ) → i < length tiles → slice_get tiles i ≡ slice_get tiles j → i ≡ j

-- the tiles that a list of sources touches: each one that some source of it reaches, in the stated order
pub record IsTouched (heads : List SourceHead) (tiles : List Tile) : Type 0 where
  pub exact : (t : Tile) → Contains tiles t ↔ Reached heads t
  pub ordered : AllPairs (λ a b. tile_cmp a b ≡ Less) tiles

-- the number of tiles that one source reaches
pub record IsReachCount (head : SourceHead) (count : ℕ) : Type 0 where
  pub tiles : List Tile
  pub listed : ListsOnce (Reaches head) tiles
  pub counted : length tiles ≡ count

-- the load of a list of sources: the sum over its sources of the number of tiles that each reaches by itself
abbrev pub IsLoad : List SourceHead → ℕ → Type 0
IsLoad [] load = load ≡ 0
IsLoad (head ∷ heads) load = (count : ℕ) × (rest : ℕ)
    × (IsReachCount head count × IsLoad heads rest × (load ≡ count + rest))

-- the value of a family at a height and the corner of a cell
abbrev pub family_value : Family → List Source → ℕ → Place → Option ℤ
family_value Elev ss h c = elevation_of ss h c
family_value Low ss h c = low_of ss h c
family_value High ss h c = high_of ss h c
family_value Mat ss h c = material_of ss h c

-- the value of the element of a tile at a row from the south and a column from the west
abbrev pub tile_value : List Source → Tile → ℕ → ℕ → Option ℤ
tile_value ss t row col = family_value t.family ss (tile_height t) (element_corner t row col)

-- two lists are the same but for members of which a fact doesn't hold
pub data SameBut {A : Type 0} (Matters : A → Type 0) : List A → List A → Type 0 where
  ended : SameBut Matters [] []
  in_both : (x : A) (xs ys : List A) → SameBut Matters xs ys → SameBut Matters (x ∷ xs) (x ∷ ys)
  only_left : (x : A) (xs ys : List A) → (Matters x → ⊥) → SameBut Matters xs ys → SameBut Matters (x ∷ xs) ys
  only_right : (y : A) (xs ys : List A) → (Matters y → ⊥) → SameBut Matters xs ys → SameBut Matters xs (y ∷ ys)

-- the same sources reach a tile, in the same order
abbrev pub SameReaching : Tile → List Source → List Source → Type 0
SameReaching t ss ts = SameBut (λ (s : Source). Reaches s.head t) ss ts
