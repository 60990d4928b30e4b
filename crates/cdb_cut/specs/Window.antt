-- The rows of a source that sampling at the places of a tile looks at.
use Rattle.std.specs.Prelude.{◌≡◌, ℕ, ◌+◌, ◌-◌, ◌*◌, ◌<◌, ◌≤◌, ℤ, Bool, ◌&&◌, List, take, drop}
use Rattle.std.specs.List.{list_any, range_with_len}
use Rattle.cdb_grid.specs.Tiles.{tile_side, element_place}
use Rattle.cdb_grid.specs.declared.tile.Tile.{Tile}
use Rattle.cdb_source.specs.declared.kind.Kind.{Kind}
use Rattle.cdb_source.specs.declared.kind.Kind.TheVariants.{Elevation, Material}
use Rattle.cdb_source.specs.declared.head.SourceHead.{SourceHead}
use Rattle.cdb_source.specs.declared.source.Source.{Source}
use Rattle.cdb_source.specs.Sample.{IsInBox, is_in_box, corner_of, row_step}
use Rattle.cdb_source.specs.Reached.{kind_of}
use Rattle.cdb_source.specs.Values.{same_kind}

-- a place of a tile lies in the box of a source
pub record HasPlaceInBox (head : SourceHead) (t : Tile) : Type 0 where
  pub row : ℕ
  pub col : ℕ
  pub row_below : row < tile_side t
  pub col_below : col < tile_side t
  pub inside : IsInBox head (element_place t row col)

-- sampling so far from the first row looks at a row where it is nearer than one step, or for material where its cell is
abbrev pub LooksAt : Kind → ℕ → ℕ → ℕ → Type 0
LooksAt Elevation step far row = (row * step < far + step) × (far < row * step + step)
LooksAt Material step far row = (row * step ≤ far) × (far < row * step + step)

-- sampling at a place of a tile in the box looks at a row of the source
pub record IsLookedAt (head : SourceHead) (t : Tile) (source_row : ℕ) : Type 0 where
  pub place : HasPlaceInBox head t
  pub looks : LooksAt head.kind (row_step head) ((element_place t place.row place.col).north - (corner_of head).north)
      source_row

-- so many rows from a first one on are the least run that has every row that is looked at
pub record IsWindow (head : SourceHead) (t : Tile) (first count : ℕ) : Type 0 where
  pub kind : head.kind ≡ kind_of t.family
  pub some : 1 ≤ count
  pub first_looked : IsLookedAt head t first
  pub last_looked : IsLookedAt head t (first + count - 1)
  pub all : (source_row : ℕ) → IsLookedAt head t source_row → (first ≤ source_row) × (source_row < first + count)
  pub within : first + count ≤ head.rows

-- there is nothing to look at: the kinds differ, or no place of the tile lies in the box
abbrev pub HasNoWindow : SourceHead → Tile → Type 0
HasNoWindow head t = head.kind ≡ kind_of t.family → HasPlaceInBox head t → ⊥

-- the posts of so many rows of a source from a first one on
abbrev pub rows_of : Source → ℕ → ℕ → List ℤ
rows_of s first count = take (count * s.head.cols) (drop (first * s.head.cols) s.posts)

-- the test whether some place of a tile lies in the box of a source
unfoldable pub has_place : SourceHead → Tile → Bool
has_place head t =
    list_any (λ row. list_any (λ col. is_in_box head (element_place t row col)) (range_with_len 0 (tile_side t)))
    (range_with_len 0 (tile_side t))

-- the test whether there is something to look at
abbrev pub has_window : SourceHead → Tile → Bool
has_window head t = same_kind head.kind (kind_of t.family) && has_place head t
