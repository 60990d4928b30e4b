use Rattle.std.proofs.Common.{refl, ◌∙◌}
use Rattle.cdb_sessions.proofs.FlagLaws.{never_out, taken, more_numbered}
use Rattle.cdb_sessions.proofs.cache.take_frames.Goals as goal

pub unreachable-requires : goal.unreachable-requires
unreachable-requires c =
    never_out c.loop-number.pool c.args.pool.now c.loop-number.number c.loop-number-test.true c.loop-number.invariant.1
    c.in_default.ensures.frame

pub loop-number-preserved : goal.loop-number-preserved
loop-number-preserved c =
    let t = taken c.loop-number.pool c.args.pool.now c.loop-number.number c.in-Some.frame.number c.loop-number-test.true
    c.loop-number.invariant.1 c.in-Some.ensures.frame in (
      c.in_ok-push.ensures.items
          ∙ more_numbered c.loop-number.frames.items c.in-Some.frame c.loop-number.number c.in-Some.frame.number
          c.loop-number.invariant.0 refl t.number,
      c.in-Some.ensures.after ∙ t.after,
    )
