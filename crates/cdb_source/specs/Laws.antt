-- The laws of one level, each for every list of sources, oldest first. The level next finer than the one of
-- height suc h has height h; height 0 is above the finest level.
use Rattle.std.specs.Prelude.{◌≡◌, ℕ, suc, ◌*◌, ◌<◌, ◌≤◌, ℤ, pos, ◌+ℤ◌, ◌*ℤ◌, ◌≤ℤ◌, ◌<ℤ◌, List, ◌++◌, length, map, All, Option, Some, None}
use Rattle.std.specs.Option.{option_or}
use Rattle.cdb_grid.specs.Grid.{Place, IsCorner, beside, centre}
use Rattle.cdb_grid.specs.Tiles.{tile_side}
use Rattle.cdb_grid.specs.declared.tile.Tile.{Tile}
use Rattle.cdb_source.specs.declared.kind.Kind.TheVariants.{Elevation, Material}
use Rattle.cdb_source.specs.declared.head.SourceHead.{SourceHead}
use Rattle.cdb_source.specs.declared.source.Source.{Source}
use Rattle.cdb_source.specs.Sample.{IsInBox, rounded, sample_at}
use Rattle.cdb_source.specs.Values.{sampled, newest_own, lesser, greater, mode, mode_of_four, elevation_of, low_of, high_of, material_of}
use Rattle.cdb_source.specs.Meaning.{IsElevation, IsLow, IsHigh, IsMode}
use Rattle.cdb_source.specs.Reached.{Reaches, IsLoad, IsTouched, tile_value, SameReaching}

-- a source has values in its box alone; a rounded quotient v of n by d has 2dv at most 2n + d, and less than 2d below
-- it
pub record Samples : Type 0 where
  pub inside : (s : Source) (p : Place) (v : ℤ) → sample_at s p ≡ Some v → IsInBox s.head p
  pub least : (d : ℕ) (n : ℤ) → 1 ≤ d → (pos (2 * d) *ℤ rounded d n) ≤ℤ (pos 2 *ℤ n +ℤ pos d)
  pub most : (d : ℕ) (n : ℤ) → 1 ≤ d → (pos 2 *ℤ n +ℤ pos d) <ℤ (pos (2 * d) *ℤ (rounded d n +ℤ pos 1))

-- the elevation is the sample of the source that is greatest by level, then by number, and nothing else is
pub record BestSource : Type 0 where
  pub is : (ss : List Source) (h : ℕ) (p : Place) → IsElevation (map sampled ss) h p (elevation_of ss h p)
  pub only : (ss : List Source) (h : ℕ) (p : Place) (r : Option ℤ) → IsElevation (map sampled ss) h p r
      → r ≡ elevation_of ss h p

-- a place of a level is one of each finer level
abbrev pub FinerPlaces : Type 0
FinerPlaces = (h : ℕ) (p : Place) → IsCorner (suc h) p → IsCorner h p

-- the elevation of a level is that of the next finer one, else the newest source of exactly this level; above the
-- finest level there is none
pub record FromFiner : Type 0 where
  pub finest : (ss : List Source) (p : Place) → elevation_of ss 0 p ≡ None
  pub next : (ss : List Source) (h : ℕ) (p : Place)
      → elevation_of ss (suc h) p ≡ option_or (elevation_of ss h p) (newest_own Elevation (map sampled ss) (suc h) p)

-- later sources: where the next finer level has no value and none of them of exactly this level has one, the earlier
-- ones decide
abbrev pub EarlierStand : Type 0
EarlierStand = (ss ts : List Source) (h : ℕ) (p : Place) → elevation_of (ss ++ ts) h p ≡ None
    → newest_own Elevation (map sampled ts) (suc h) p ≡ None
    → elevation_of (ss ++ ts) (suc h) p ≡ elevation_of ss (suc h) p

-- both in one: the next finer level, then the later sources of exactly this level, newest first, then what was there
-- before
abbrev pub ThreePasses : Type 0
ThreePasses = (ss ts : List Source) (h : ℕ) (p : Place)
    → elevation_of (ss ++ ts) (suc h) p ≡ option_or (elevation_of (ss ++ ts) h p)
    (option_or (newest_own Elevation (map sampled ts) (suc h) p) (elevation_of ss (suc h) p))

-- the least elevation of a cell is the least of all levels and places in it, and comes from its corner and its four
-- finer cells
pub record LeastOfCell : Type 0 where
  pub is : (ss : List Source) (h : ℕ) (c : Place) → h ≤ 34 → IsCorner h c → IsLow (map sampled ss) h c (low_of ss h c)
  pub only : (ss : List Source) (h : ℕ) (c : Place) (r : Option ℤ) → h ≤ 34 → IsCorner h c
      → IsLow (map sampled ss) h c r → r ≡ low_of ss h c
  pub next : (ss : List Source) (h : ℕ) (c : Place)
      → low_of ss (suc h) c ≡ lesser (elevation_of ss (suc h) c)
      (lesser (lesser (low_of ss h (beside h c 0 0)) (low_of ss h (beside h c 0 1)))
      (lesser (low_of ss h (beside h c 1 0)) (low_of ss h (beside h c 1 1))))

-- the same of the greatest
pub record GreatestOfCell : Type 0 where
  pub is : (ss : List Source) (h : ℕ) (c : Place) → h ≤ 34 → IsCorner h c → IsHigh (map sampled ss) h c (high_of ss h c)
  pub only : (ss : List Source) (h : ℕ) (c : Place) (r : Option ℤ) → h ≤ 34 → IsCorner h c
      → IsHigh (map sampled ss) h c r → r ≡ high_of ss h c
  pub next : (ss : List Source) (h : ℕ) (c : Place)
      → high_of ss (suc h) c ≡ greater (elevation_of ss (suc h) c)
      (greater (greater (high_of ss h (beside h c 0 0)) (high_of ss h (beside h c 0 1)))
      (greater (high_of ss h (beside h c 1 0)) (high_of ss h (beside h c 1 1))))

-- the mode is the most frequent value, and of equally frequent ones the smallest, and nothing else is
pub record MostFrequent : Type 0 where
  pub is : (values : List ℤ) → IsMode values (mode values)
  pub only : (values : List ℤ) (r : Option ℤ) → IsMode values r → r ≡ mode values

-- the material of the four finer cells of a cell
abbrev pub four_finer : List Source → ℕ → Place → Option ℤ
four_finer ss h c = mode_of_four (material_of ss h (beside h c 0 0)) (material_of ss h (beside h c 0 1))
    (material_of ss h (beside h c 1 0)) (material_of ss h (beside h c 1 1))

-- the material of a cell with later sources: its four finer cells, then the later sources of exactly this level, newest
-- first, then what was there before; above the finest level there is none
pub record MaterialLater : Type 0 where
  pub finest : (ss : List Source) (c : Place) → material_of ss 0 c ≡ None
  pub next : (ss : List Source) (h : ℕ) (c : Place)
      → material_of ss (suc h) c
      ≡ option_or (four_finer ss h c) (newest_own Material (map sampled ss) (suc h) (centre (suc h) c))
  pub later : (ss ts : List Source) (h : ℕ) (c : Place)
      → material_of (ss ++ ts) (suc h) c ≡ option_or (four_finer (ss ++ ts) h c)
      (option_or (newest_own Material (map sampled ts) (suc h) (centre (suc h) c)) (material_of ss (suc h) c))

-- the values of a tile, of each family, depend on the sources that reach it, in their order, and on no other
pub record ReachingAlone : Type 0 where
  pub same : (t : Tile) (ss ts : List Source) → SameReaching t ss ts → (row col : ℕ) → row < tile_side t
      → col < tile_side t → tile_value ss t row col ≡ tile_value ts t row col
  pub untouched : (t : Tile) (ss ts : List Source) → All (λ (s : Source). Reaches s.head t → ⊥) ts → (row col : ℕ)
      → row < tile_side t → col < tile_side t → tile_value (ss ++ ts) t row col ≡ tile_value ss t row col
  pub unreached : (t : Tile) (ss : List Source) → All (λ (s : Source). Reaches s.head t → ⊥) ss → (row col : ℕ)
      → row < tile_side t → col < tile_side t → tile_value ss t row col ≡ None

-- the tiles that sources touch are at most as many as their load says
abbrev pub TouchedWithinLoad : Type 0
TouchedWithinLoad = (heads : List SourceHead) (load : ℕ) (tiles : List Tile) → IsLoad heads load → IsTouched heads tiles
    → length tiles ≤ load
