-- Laws of the values of tiles.
use Rattle.std.specs.Prelude.{◌≡◌, ℕ, ◌+◌, ◌*◌, ◌/◌, ◌<◌, ◌≤◌, ◌⊎◌, ℤ, true, false, List, [], ◌∷◌, ◌++◌, length, All, Any, IfSome, Option}
use Rattle.cdb_grid.specs.Grid.{Place}
use Rattle.cdb_grid.specs.Units.{side_of}
use Rattle.cdb_grid.specs.Children.{IsParent}
use Rattle.cdb_grid.specs.Tiles.{tile_height, tile_side, element_corner, IsInTile}
use Rattle.cdb_grid.specs.Frames.{number_at, IsPartChanged, four_under}
use Rattle.cdb_grid.specs.declared.family.Family.{Family}
use Rattle.cdb_grid.specs.declared.family.Family.TheVariants.{Elev, Low, High, Mat}
use Rattle.cdb_grid.specs.declared.tile.Tile.{Tile}
use Rattle.cdb_source.specs.declared.kind.Kind.TheVariants.{Elevation}
use Rattle.cdb_source.specs.declared.head.SourceHead.{SourceHead}
use Rattle.cdb_source.specs.declared.source.Source.{Source}
use Rattle.cdb_source.specs.Posts.{none_of}
use Rattle.cdb_source.specs.Sample.{post_at}
use Rattle.cdb_source.specs.Reached.{kind_of, source_height, family_value, Reaches}
use Rattle.cdb_cut.specs.Blend.{value_from}
use Rattle.cdb_cut.specs.Window.{IsWindow, HasNoWindow, has_window}
use Rattle.cdb_cut.specs.OneTile.{IsFrameOf, four_rule, IsFolded, IsWholeFolded, IsPainted, IsPaintedBy, IsFilled, no_values, elevations_of, IsElevationOf, StandsIn}

-- no value is the number that stands for none
abbrev pub PlainValues : Type 0
PlainValues = (f : Family) (ss : List Source) (h : ℕ) (c : Place)
    → IfSome (family_value f ss h c) (λ v. v ≡ none_of (kind_of f) → ⊥)

-- whether a tile has a window of a source follows from the two by a test
pub record WindowsAreTested : Type 0 where
  pub none : (head : SourceHead) (t : Tile) → HasNoWindow head t → has_window head t ≡ false
  pub some : (head : SourceHead) (t : Tile) (first count : ℕ) → IsWindow head t first count → has_window head t ≡ true

-- a common divisor may be taken out of the step between rows and the distance to a point, and one out of those along
-- columns: what the posts of a source have there stays
abbrev pub ReducedMeans : Type 0
ReducedMeans = (s : Source) (g h m n up right : ℕ) → 1 ≤ g → 1 ≤ h → 1 ≤ m → 1 ≤ n
    → value_from s.head.kind (post_at s) (g * m) (h * n) (g * up) (h * right)
    ≡ value_from s.head.kind (post_at s) m n up right

-- a source list doesn't reach a tile
abbrev pub NoneReaches : List Source → Tile → Type 0
NoneReaches ss t = All (λ (s : Source). Reaches s.head t → ⊥) ss

-- a family that begins with no value and takes sources and the older tile; the others begin with elevations
abbrev pub IsOwn : Family → Type 0
IsOwn f = (f ≡ Elev) ⊎ (f ≡ Mat)

abbrev pub IsExtreme : Family → Type 0
IsExtreme f = (f ≡ Low) ⊎ (f ≡ High)

-- the finer tiles of a tile, one after the other: each is folded in, or no source reaches it
pub record TileFromFiner : Type 0 where
  pub empty : (ss : List Source) (t : Tile) (frame : List ℤ) → length frame ≡ tile_side t * tile_side t
      → ((row col : ℕ) → row < tile_side t → col < tile_side t
      → number_at frame (tile_side t) row col ≡ none_of (kind_of t.family)) → IsFolded ss t no_values [] frame
  pub elevations : (ss : List Source) (t e : Tile) (frame : List ℤ) → kind_of t.family ≡ Elevation → IsElevationOf e t
      → IsFrameOf ss e frame → IsFolded ss t (elevations_of ss t) [] frame
  pub fold : (ss : List Source) (t : Tile) (start : ℕ → ℕ → Option ℤ) (c : Tile) (row col : ℕ) → StandsIn c t row col
      → ((r q : ℕ) → IfSome (start r q) (λ v. v ≡ none_of (kind_of t.family) → ⊥))
      → (child : List ℤ) → IsFrameOf ss c child → (done : List Tile) (old new : List ℤ) → IsFolded ss t start done old
      → IsPartChanged (four_under (four_rule t.family) child (tile_side c)) row col (tile_side c / 2) (tile_side c / 2)
      (tile_side t) old new
      → IsFolded ss t start (done ++ c ∷ []) new
  pub miss : (ss : List Source) (t : Tile) (start : ℕ → ℕ → Option ℤ) (c : Tile) (row col : ℕ) → StandsIn c t row col
      → NoneReaches ss c
      → (done : List Tile) (frame : List ℤ) → IsFolded ss t start done frame
      → IsFolded ss t start (done ++ c ∷ []) frame
  pub whole : (ss : List Source) (t : Tile) (start : ℕ → ℕ → Option ℤ) (done : List Tile) (frame : List ℤ)
      → IsFolded ss t start done frame
      → ((p : Place) → IsInTile t p → Any (λ d. IsInTile d p) done) → IsWholeFolded ss t start frame
  pub finest : (ss : List Source) (t : Tile) (start : ℕ → ℕ → Option ℤ) (frame : List ℤ) → tile_height t ≡ 1
      → IsFolded ss t start [] frame → IsWholeFolded ss t start frame
  pub extreme : (ss : List Source) (t : Tile) (frame : List ℤ) → IsExtreme t.family
      → IsWholeFolded ss t (elevations_of ss t) frame → IsFrameOf ss t frame

-- where a child stands in its parent is what the call that tells it says
abbrev pub StandsAt : Type 0
StandsAt = (c t : Tile) (row col : ℕ) → IsParent c t
    → ((p : Tile) → IsParent c p → element_corner p row col ≡ element_corner c 0 0)
    → row + tile_side c / 2 ≤ side_of (tile_height c + 1) → col + tile_side c / 2 ≤ side_of (tile_height c + 1)
    → StandsIn c t row col

-- then the sources of exactly the tile's level, newest first, and the tile that stood there before; or all sources, and
-- no older tile
pub record FromOwn : Type 0 where
  pub start : (ss : List Source) (t : Tile) (frame : List ℤ) → IsOwn t.family → IsWholeFolded ss t no_values frame
      → IsPaintedBy ss t [] frame
  pub paint : (ss : List Source) (t : Tile) (s : Source) (own : List Source) (old new : List ℤ)
      → s.head.kind ≡ kind_of t.family → source_height s.head ≡ tile_height t
      → IsPaintedBy ss t own old → IsPainted s t old new → IsPaintedBy ss t (s ∷ own) new
  pub pass : (ss : List Source) (t : Tile) (s : Source) (own : List Source) (frame : List ℤ)
      → (s.head.kind ≡ kind_of t.family → source_height s.head ≡ tile_height t → Reaches s.head t → ⊥)
      → IsPaintedBy ss t own frame → IsPaintedBy ss t (s ∷ own) frame
  pub fill : (ss ts : List Source) (t : Tile) (older old new : List ℤ) → IsOwn t.family → IsFrameOf ss t older
      → IsPaintedBy (ss ++ ts) t ts old → IsFilled t older old new → IsFrameOf (ss ++ ts) t new
  pub no_older : (ss ts : List Source) (t : Tile) (frame : List ℤ) → IsOwn t.family → NoneReaches ss t
      → IsPaintedBy (ss ++ ts) t ts frame → IsFrameOf (ss ++ ts) t frame
  pub whole : (ss : List Source) (t : Tile) (frame : List ℤ) → IsOwn t.family → IsPaintedBy ss t ss frame
      → IsFrameOf ss t frame
