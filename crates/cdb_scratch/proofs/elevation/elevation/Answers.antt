use Rattle.std.proofs.Common.{rules, Some, None, ◌∙◌, ap₂, sym}
use Rattle.std.proofs.lemmas.Int.{to_z-of_z}
use mir.Syntax.{w16}
use mir.Val.{SFits}
use Rattle.cdb_source.specs.Offers.{over}
use Rattle.cdb_scratch.proofs.ValueLaws.{best_more, elevation_of_best}
use Rattle.cdb_scratch.proofs.elevation.elevation.Goals as goal

pub loop-source-preserved : goal.loop-source-preserved
loop-source-preserved c =
    c.over-best.ensures ∙ ap₂ over c.loop-source.invariant c.offer.ensures
    ∙ sym (best_more c.args.height (record { north = c.args.north; east = c.args.east })
    c.args.sources.now c.loop-source.source-index c.source-item.result c.loop-source-test.true c.source-item.is)

pub returns-in-Some : goal.returns-in-Some
returns-in-Some c =
    let fits : SFits w16 c.in-Some.value = search rules in
    rw (to_z-of_z w16 c.in-Some.value fits)
    (elevation_of_best c.args.height (record { north = c.args.north; east = c.args.east })
    c.args.sources.now c.loop-source.source-index (Some (c.in-Some.field-0-0, c.in-Some.value))
    c.loop-source-test.false (sym c.in-Some.is ∙ c.loop-source.invariant))

pub returns-in-None : goal.returns-in-None
returns-in-None c =
    elevation_of_best c.args.height (record { north = c.args.north; east = c.args.east })
    c.args.sources.now c.loop-source.source-index None c.loop-source-test.false (sym c.in-None.is
    ∙ c.loop-source.invariant)
