use Rattle.std.proofs.Common.{rules, ◌≡◌, pos, get_or, to_z, of_z}
use Rattle.std.proofs.lemmas.Int.{to_z-of_z}
use mir.Syntax.{w32}
use mir.Val.{SFits}
use Rattle.cdb_source.specs.Posts.{IsAllowed, greatest_of, least_of}
use Rattle.cdb_source.proofs.RowLaws.{allowed_more, allowed_all, by_limits}
use Rattle.cdb_source.proofs.row.is_row.Goals as goal

pub loop-number-preserved : goal.loop-number-preserved
loop-number-preserved c =
    let fits : SFits w32 (get_or c.args.row.now c.loop-number.number-index (pos 0)) = search rules in
    let same = to_z-of_z w32 (get_or c.args.row.now c.loop-number.number-index (pos 0)) fits in
    let least : to_z w32 (of_z w32 c.limits-least.result.0) ≡ least_of c.args.kind = search rules in
    let greatest : to_z w32 (of_z w32 c.limits-least.result.1) ≡ greatest_of c.args.kind = search rules in
    allowed_more (IsAllowed c.args.kind (to_z w32 (of_z w32 c.args.novalue)))
    c.args.row.now c.loop-number.number-index c.loop-number.all c.is_within-all.result
    c.loop-number-test.true c.loop-number.invariant
    (by_limits c.args.kind _ _ _ _ c.is_within-all.result least greatest (rw same at c.is_within-all.ensures))

pub returns : goal.returns
returns c =
    let all = allowed_all (IsAllowed c.args.kind (to_z w32 (of_z w32 c.args.novalue)))
    c.args.row.now c.loop-number.number-index c.loop-number.all c.loop-number-test.false c.loop-number.invariant in
    rw (to_z-of_z w32 c.args.novalue c.ranges.novalue) at all
