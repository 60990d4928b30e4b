-- What a frame begins with: no value, or the elevations of the same cells.
use Rattle.std.proofs.Common.{◌⊎◌, inl, inr, refl, subst, ◌≡◌, ℕ, ◌+◌, ◌*◌, ◌<◌, ◌≤◌, ℤ, List, [], length, sym, ap, ◌∙◌, arith}
use Rattle.std.specs.Prelude.{IfSome}
use Rattle.std.proofs.Math.Nat.{mul-le-mul_right}
use Rattle.cdb_grid.specs.Frames.{IsRowChanged}
use Rattle.cdb_grid.specs.Tiles.{tile_side, tile_height, element_corner}
use Rattle.cdb_grid.specs.declared.family.Family.{Family}
use Rattle.cdb_grid.specs.declared.family.Family.TheVariants.{Elev, Low, High}
use Rattle.cdb_grid.specs.declared.tile.Tile.{Tile}
use Rattle.cdb_source.specs.Posts.{none_of}
use Rattle.cdb_source.specs.Reached.{kind_of}
use Rattle.cdb_source.specs.declared.kind.Kind.{Kind}
use Rattle.cdb_source.specs.declared.kind.Kind.TheVariants.{Elevation}
use Rattle.cdb_source.specs.declared.source.Source.{Source}
use Rattle.cdb_cut.specs.FinerTiles.{elevation_tile, IsPlain}
use Rattle.cdb_cut.specs.Laws.{IsExtreme}
use Rattle.cdb_cut.specs.OneTile.{elevations_of, IsElevationOf, IsFolded, no_values}
use Rattle.cdb_cut.proofs.OneTileWhole.{start_empty}
use Rattle.cdb_cut.proofs.Plain.{value_plain}

pub cleared : (t : Tile) (none : ℤ) (k : ℕ) (old new : List ℤ)
    → none ≡ none_of (kind_of t.family) → length old ≡ tile_side t * tile_side t → length old ≤ k
    → IsRowChanged (λ i v. none) k old new
    → (ss : List Source) → IsFolded ss t no_values [] new
cleared t none k old new is size all changed ss =
    start_empty ss t new (changed.size ∙ size) (λ row col r c.
    let n = tile_side t in
    let end : (row + 1) * n ≤ n * n = mul-le-mul_right n (omega arith) in
    let below : row * n + col < length old = omega (arith, end, c, size) in
    changed.changed (row * n + col) (omega (arith, below, all)) below ∙ is)

-- ---- least and greatest elevations

pub extreme_kind : (f : Family) → (f ≡ Low) ⊎ (f ≡ High) → kind_of f ≡ Elevation
extreme_kind f (inl e) = ap kind_of e
extreme_kind f (inr e) = ap kind_of e

pub elevations_same : (t : Tile) → IsElevationOf (elevation_tile t) t
elevations_same t = record { family = refl; cell = refl; level = refl; up = refl; right = refl }

pub plain_elevations : (ss : List Source) (t : Tile) → IsExtreme t.family → IsPlain t (elevations_of ss t)
plain_elevations ss t extreme row col =
    subst (λ (k : Kind). IfSome (elevations_of ss t row col) (λ v. v ≡ none_of k → ⊥))
    (sym (extreme_kind t.family extreme)) (value_plain Elev ss (tile_height t) (element_corner t row col))
