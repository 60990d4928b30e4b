use Rattle.std.proofs.Common.{◌*◌, length, arith, rules, ap, ◌∙◌}
use Rattle.std.proofs.lemmas.Int.{to_z-of_z}
use mir.Syntax.{w16}
use mir.Val.{SFits}
use Rattle.cdb_grid.proofs.FrameLaws.{row-start, row-more}
use Rattle.cdb_source.specs.Runs.{number_from, read_as}
use Rattle.cdb_source.proofs.RunLaws.{all_spelled}
use Rattle.cdb_source.proofs.runs.decode_posts.Goals as goal

pub loop-k-init : goal.loop-k-init
loop-k-init c = row-start _ _

pub loop-k-preserved : goal.loop-k-preserved
loop-k-preserved c =
    let fits : SFits w16 c.read_as.result = search rules in
    let f : SFits w16 c.number.result = search rules in
    let is = rw (to_z-of_z w16 c.number.result f) at c.read_as.ensures in
    rw (to_z-of_z w16 c.read_as.result fits)
    (row-more (λ k old. read_as c.args.kind (number_from c.args.bytes.now (2 * k)))
    c.loop-k.k c.args.to.now c.loop-k.to c.read_as.result (omega arith) c.loop-k.invariant
    (is ∙ ap (read_as c.args.kind) c.number.ensures))

pub returns-clause-each : goal.returns-clause-each
returns-clause-each c k lt = let e = c.loop-k-test.false in c.loop-k.invariant.changed k (omega arith) lt

pub returns-clause-spelled : goal.returns-clause-spelled
returns-clause-spelled c posts all e =
    let t = c.loop-k-test.false in
    all_spelled c.args.kind c.args.bytes.now c.loop-k.to posts (length c.args.to.now)
    c.loop-k.invariant.size c.requires (λ k lt. c.loop-k.invariant.changed k (omega arith) lt) all e
