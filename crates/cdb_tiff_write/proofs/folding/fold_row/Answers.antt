use Rattle.std.proofs.Common.{◌≡◌, ℕ, ◌+◌, ◌*◌, ◌<◌, ℤ, pos, length, get_or, refl, arith, rules}
use Rattle.std.proofs.lemmas.Int.{to_z-of_z}
use mir.Syntax.{w16}
use mir.Val.{SFits}
use Rattle.cdb_grid.specs.Frames.{number_in}
use Rattle.cdb_grid.proofs.FrameLaws.{row-more, passed}
use Rattle.cdb_tiff_write.specs.inside.Finer.{four_in_rows}
use Rattle.cdb_tiff_write.proofs.folding.fold_row.Goals as goal

pub loop-k-preserved : goal.loop-k-preserved
loop-k-preserved g c =
    let fits : SFits w16 c.of_four.result = search rules in
    let k : ℕ = c.loop-k.k in
    let lt : k < length c.args.part.now = omega arith in
    let own : ℤ = get_or c.loop-k.part k (pos 0) in
    let sw : ℤ = number_in c.args.south.now (2 * k) in
    let se : ℤ = number_in c.args.south.now (2 * k + 1) in
    let nw : ℤ = number_in c.args.north.now (2 * k) in
    let ne : ℤ = number_in c.args.north.now (2 * k + 1) in
    let first : own ≡ number_in c.args.part.now k = c.loop-k.invariant.rest k (omega arith) lt in
    rw (to_z-of_z w16 c.of_four.result fits)
    (row-more (four_in_rows g.F.FourRule.of_four c.args.south.now c.args.north.now) k
    c.args.part.now c.loop-k.part c.of_four.result lt c.loop-k.invariant
    (passed g.F.FourRule.of_four c.of_four.result own sw se nw ne (number_in c.args.part.now k) sw se nw ne
    (search rules) (search rules) (search rules) (search rules) (search rules) c.of_four.ensures first
    refl refl refl refl))
