use Rattle.std.proofs.Common.{◌≡◌, ℕ, ◌+◌, ◌-◌, ◌*◌, ◌<◌, ℤ, pos, List, length, get_or, take, drop, arith, rules, refl}
use Rattle.std.proofs.lemmas.Int.{to_z-of_z}
use mir.Syntax.{w16}
use mir.Val.{SFits}
use Rattle.cdb_grid.specs.Frames.{four_under, number_in}
use Rattle.cdb_grid.proofs.FrameLaws.{row-more, in_row, passed}
use Rattle.cdb_grid.proofs.part.FinerRowRule.change_row.Goals as goal

pub loop-k-preserved : goal.loop-k-preserved
loop-k-preserved g c =
    let fits : SFits w16 c.of_four.result = search rules in
    let child : List ℤ = c.args.self.now.child.now in
    let side : ℕ = c.args.self.now.side in
    let row : ℕ = c.args.row in
    let k : ℕ = c.loop-k.k in
    let lt : k < length c.args.part.now = omega arith in
    let high = c.requires.high in
    let wide = c.requires.wide in
    let a : ℕ = 2 * row * side in
    let b : ℕ = (2 * row + 1) * side in
    let wa : ℕ = a + side - a in
    let wb : ℕ = b + side - b in
    let own : ℤ = get_or c.loop-k.part k (pos 0) in
    let sw : ℤ = get_or (take wa (drop a child)) (2 * k) (pos 0) in
    let se : ℤ = get_or (take wa (drop a child)) (2 * k + 1) (pos 0) in
    let nw : ℤ = get_or (take wb (drop b child)) (2 * k) (pos 0) in
    let ne : ℤ = get_or (take wb (drop b child)) (2 * k + 1) (pos 0) in
    let first : own ≡ number_in c.args.part.now k = c.loop-k.invariant.rest k (omega arith) (omega arith) in
    rw (to_z-of_z w16 c.of_four.result fits)
    (row-more (four_under g.F.FourRule.of_four child side row)
    k c.args.part.now c.loop-k.part c.of_four.result (omega arith) c.loop-k.invariant
    (passed g.F.FourRule.of_four c.of_four.result own sw se nw ne _ _ _ _ _
    (search rules) (search rules) (search rules) (search rules) (search rules) c.of_four.ensures first
    (in_row child side (2 * row) a wa (2 * k) c.requires.square (omega arith) refl (omega arith) (omega arith))
    (in_row child side (2 * row) a wa (2 * k + 1) c.requires.square (omega arith) refl (omega arith) (omega arith))
    (in_row child side (2 * row + 1) b wb (2 * k) c.requires.square (omega arith) refl (omega arith) (omega arith))
    (in_row child side (2 * row + 1) b wb (2 * k + 1) c.requires.square (omega arith) refl (omega arith)
    (omega arith))))
