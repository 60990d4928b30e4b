-- Where a tile's places stand in its parent.
use Rattle.std.proofs.Common.{◌≡◌, ℕ, suc, ◌+◌, ◌*◌, ◌/◌, ◌%◌, ◌<◌, ◌≤◌, ◌⊎◌, inl, inr, ◌∙◌, ap, arith}
use Rattle.std.proofs.lemmas.Bool.{cases_lt}
use Rattle.cdb_grid.specs.Units.{degree, step, tiles_of, side_of, width_at, row_of, column_of}
use Rattle.cdb_grid.specs.Tiles.{tile_height, tile_side, element_corner}
use Rattle.cdb_grid.specs.Children.{IsParent}
use Rattle.cdb_grid.specs.declared.tile.Tile.{Tile}
use Rattle.cdb_grid.proofs.UnitLaws.{step-suc}
use Rattle.cdb_grid.proofs.GridLaws.{same_place}
use Rattle.cdb_grid.proofs.TileLaws.{tile_height-most}
use Rattle.cdb_grid.proofs.PyramidLaws.{IsHalved, parent-halved, side-fine, side-coarse, tiles-coarse}

-- the row of its parent, or the column, at which a tile of an index begins
abbrev pub spot_at : ℕ → ℕ → ℕ
spot_at u side = u % 2 * (side / 2)

-- a tile's own side and that of its parent, by the tile's index: the same from level 1 on, else the tile is alone and
-- its side is twice that of its parent
abbrev Sides : ℕ → ℕ → ℕ → Type 0
Sides u side up = ((side ≡ 1024) × (up ≡ 1024)) ⊎ ((u ≡ 0) × (side ≡ 2 * up))

sides_of : (h u : ℕ) → h ≤ 33 → u < tiles_of h → Sides u (side_of h) (side_of (suc h))
sides_of h u le lt = elim (cases_lt h 24) [
  | inl p ↦ inl (side-fine h (omega arith), side-fine (suc h) (omega arith))
  | inr p ↦ let e : tiles_of h ≡ 1 = tiles-coarse h p in inr (omega arith, side-coarse h p le)
]

-- in steps of the tile, its part of the parent begins where the tile does
steps_at : (u side up : ℕ) → Sides u side up → 2 * (u / 2 * up + spot_at u side) ≡ u * side
steps_at u side up s = elim s [
  | inl p ↦ with_sides p.0 p.1
  | inr p ↦ alone p.0 p.1
]
  where
    with_sides : side ≡ 1024 → up ≡ 1024 → 2 * (u / 2 * up + spot_at u side) ≡ u * side
    with_sides e f = rw (e, f) (omega arith)

    alone : u ≡ 0 → side ≡ 2 * up → 2 * (u / 2 * up + spot_at u side) ≡ u * side
    alone e f = rw e (omega arith)

pub spot-fits : (h u : ℕ) → h ≤ 33 → u < tiles_of h → spot_at u (side_of h) + side_of h / 2 ≤ side_of (suc h)
spot-fits h u le lt = elim (sides_of h u le lt) [
  | inl p ↦ same p.0 p.1
  | inr p ↦ alone p.0 p.1
]
  where
    same : side_of h ≡ 1024 → side_of (suc h) ≡ 1024 → spot_at u (side_of h) + side_of h / 2 ≤ side_of (suc h)
    same e f = rw (e, f) (omega arith)

    alone : u ≡ 0 → side_of h ≡ 2 * side_of (suc h) → spot_at u (side_of h) + side_of h / 2 ≤ side_of (suc h)
    alone e f = rw e (omega arith)

-- the same in units, along one axis
units_at : (b u side up s t : ℕ) → Sides u side up → t ≡ 2 * s → b + (u / 2 * up + spot_at u side) * t
    ≡ b + (u * side + 0) * s
units_at b u side up s t k e =
    let steps : 2 * (u / 2 * up + spot_at u side) * s ≡ u * side * s = ap (λ x. x * s) (steps_at u side up k) in
    ap (λ x. b + (u / 2 * up + spot_at u side) * x) e ∙ regroup (u / 2 * up + spot_at u side) steps
  where
    regroup : (x : ℕ) → 2 * x * s ≡ u * side * s → b + x * (2 * s) ≡ b + (u * side + 0) * s
    regroup x steps = omega arith

-- the cell of the parent at which a tile's part begins has the tile's south-west corner
pub spot-begins : (c p : Tile) → IsParent c p
    → element_corner p (spot_at c.up (tile_side c)) (spot_at c.right (tile_side c)) ≡ element_corner c 0 0
spot-begins c p k =
    let i : IsHalved c p = parent-halved c p k in
    let h : ℕ = tile_height c in
    let w : ℕ = width_at (row_of c.cell.lat) in
    let above = i.above in
    let most = tile_height-most p in
    let le : h ≤ 33 = omega arith in
    let north : ℕ → ℕ → ℕ → ℕ = λ b u g. b + (u * side_of g + spot_at c.up (side_of h)) * step g in
    let east : ℕ → ℕ → ℕ → ℕ → ℕ = λ b w u g. b + (u * side_of g + spot_at c.right (side_of h)) * (w * step g) in
    let wide : w * step (suc h) ≡ 2 * (w * step h) = ap (λ x. w * x) (step-suc h) ∙ (omega arith) in
    same_place _ _
    (ap (λ x. north (row_of x.lat * degree) p.up (tile_height p)) i.cell
    ∙ ap (λ x. north (row_of c.cell.lat * degree) x (tile_height p)) i.up
    ∙ ap (north (row_of c.cell.lat * degree) (c.up / 2)) above
    ∙ units_at (row_of c.cell.lat * degree) c.up (side_of h) (side_of (suc h)) (step h) (step (suc h))
    (sides_of h c.up le c.up_in_range) (step-suc h))
    (ap (λ x. east (column_of x.lon * degree) (width_at (row_of x.lat)) p.right (tile_height p)) i.cell
    ∙ ap (λ x. east (column_of c.cell.lon * degree) w x (tile_height p)) i.right
    ∙ ap (east (column_of c.cell.lon * degree) w (c.right / 2)) above
    ∙ units_at (column_of c.cell.lon * degree) c.right (side_of h) (side_of (suc h)) (w * step h) (w * step (suc h))
    (sides_of h c.right le c.right_in_range) wide)
