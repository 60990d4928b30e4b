-- A degree is a whole number of tiles, and an index is a quotient.
use Rattle.std.proofs.Common.{◌≡◌, ℕ, ◌+◌, ◌*◌, ◌/◌, ◌<◌, ◌≤◌, arith, subst}
use Rattle.std.proofs.lemmas.Nat.{div_below, mul-le}
use Rattle.std.proofs.Math.Nat.{div-mul-le_self, lt-div-mul-add}
use Rattle.cdb_grid.specs.Units.{degree, height_of, tiles_of}
use Rattle.cdb_grid.proofs.UnitLaws.{all_rows, height-most, tiles-le}
use Rattle.cdb_grid.proofs.locate.tile_index.Goals as goal

below : (w e side s tiles offset : ℕ) → 1 ≤ w → 1 ≤ e → e ≡ side * s → tiles * side * s ≡ degree → offset < w * degree
    → offset / (w * e) < tiles
below w e side s tiles offset p q x y lt =
    let r : 1 * 1 ≤ w * e = mul-le 1 1 w e p q in
    let z : tiles * (w * (side * s)) ≡ w * (tiles * side * s) = omega arith in
    let k : tiles * (w * e) ≡ w * degree = rw x (rw z (rw y)) in
    div_below offset (w * e) tiles r (omega arith)

low : (w e side s offset : ℕ) → e ≡ side * s → (offset / (w * e) * side + 0) * (w * s) ≤ offset
low w e side s offset x =
    let q : ℕ = offset / (w * e) in
    let a : q * (w * e) ≤ offset = div-mul-le_self offset (w * e) in
    let b : q * (w * (side * s)) ≤ offset = subst (λ n. q * (w * n) ≤ offset) x a in
    omega arith

high : (w e side s offset : ℕ) → 1 ≤ w → 1 ≤ e → e ≡ side * s → offset < (offset / (w * e) * side + side) * (w * s)
high w e side s offset p r x =
    let q : ℕ = offset / (w * e) in
    let pos : 1 * 1 ≤ w * e = mul-le 1 1 w e p r in
    let a : offset < q * (w * e) + w * e = lt-div-mul-add pos in
    let b : offset < q * (w * (side * s)) + w * (side * s) = subst (λ n. offset < q * (w * n) + w * n) x a in
    omega arith

pub overflow_cast-result : goal.overflow_cast-result
overflow_cast-result c =
    let h : ℕ = height_of c.args.level.number in
    let lt = below _ _ _ _ (tiles_of h) _ c.requires.least c.extent.ensures.least c.extent.ensures.value
    (all_rows h (height-most c.args.level.number c.args.level.coarsest)) c.requires.offset in
    let le = tiles-le h in
    omega arith

pub returns-clause-bound : goal.returns-clause-bound
returns-clause-bound c = below _ _ _ _ _ _ c.requires.least c.extent.ensures.least c.extent.ensures.value
    (all_rows _ (height-most c.args.level.number c.args.level.coarsest)) c.requires.offset

pub returns-clause-low : goal.returns-clause-low
returns-clause-low c = low c.args.width c.extent.result _ _ c.args.offset c.extent.ensures.value

pub returns-clause-high : goal.returns-clause-high
returns-clause-high c =
    high c.args.width c.extent.result _ _ c.args.offset c.requires.least c.extent.ensures.least c.extent.ensures.value
