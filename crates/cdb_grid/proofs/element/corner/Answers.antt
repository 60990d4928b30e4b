-- The corner is so many steps from its geocell's edges, and its cell ends within the geocell.
use Rattle.std.proofs.Common.{◌≡◌, ℕ, ◌+◌, ◌*◌, ◌≤◌, ap, ◌∙◌, arith}
use Rattle.std.proofs.Math.Nat.{mul-le-mul_right}
use Rattle.cdb_grid.specs.Units.{degree}
use Rattle.cdb_grid.proofs.GridLaws.{same_place}
use Rattle.cdb_grid.proofs.ElementLaws.{columns_within}
use Rattle.cdb_grid.proofs.element.corner.Goals as goal

north_is : (x x' k k' : ℕ) → x ≡ x' → k ≡ k' → x * degree + k ≡ x' * degree + k'
north_is x x' k k' ex ek = omega arith

east_is : (x x' k n s v w : ℕ) → x ≡ x' → k ≡ n * s → v ≡ w → x * degree + k * v ≡ x' * degree + n * (w * s)
east_is x x' k n s v w ex ek ev =
    let ring : x' * degree + n * s * w ≡ x' * degree + n * (w * s) = omega arith in
    ap (λ y. y * degree + k * v) ex ∙ ap (λ y. x' * degree + y * v) ek ∙ ap (λ y. x' * degree + n * s * y) ev ∙ ring

east_most : (x x' k s v w : ℕ) → x ≡ x' → v ≡ w → x' + w ≤ 360 → k + s ≤ degree
    → x * degree + k * v + w * s ≤ 360 * degree
east_most x x' k s v w ex ev wide ends =
    let m : (k + s) * w ≤ degree * w = mul-le-mul_right w ends in
    let e : k * v ≡ k * w = ap (λ y. k * y) ev in
    omega arith

pub returns-clause-corner : goal.returns-clause-corner
returns-clause-corner c =
    same_place _ _ (north_is _ _ _ _ c.row.ensures.value c.along.ensures.value)
    (east_is _ _ _ _ _ _ _ c.column.ensures.value c.along-2.ensures.value c.width.ensures.value)

pub returns-clause-east : goal.returns-clause-east
returns-clause-east c =
    east_most _ _ _ _ _ _ c.column.ensures.value c.width.ensures.value (columns_within c.args.tile.now)
    c.along-2.ensures.most
