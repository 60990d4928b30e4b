use Rattle.std.proofs.Common.{◌∙◌, ap₂, sym}
use Rattle.std.specs.Option.{option_or}
use Rattle.cdb_scratch.proofs.ValueLaws.{newest_more, newest_of_all}
use Rattle.cdb_scratch.proofs.material.newest_own.Goals as goal

pub loop-source-preserved : goal.loop-source-preserved
loop-source-preserved c =
    c.over-newest.ensures ∙ ap₂ option_or c.own.ensures c.loop-source.invariant
    ∙ sym (newest_more c.args.at (record { north = c.args.north; east = c.args.east })
    c.args.sources.now c.loop-source.source-index c.source-item.result c.loop-source-test.true c.source-item.is)

pub returns : goal.returns
returns c =
    newest_of_all c.args.at (record { north = c.args.north; east = c.args.east })
    c.args.sources.now c.loop-source.source-index c.loop-source.newest c.loop-source-test.false
    c.loop-source.invariant
