use Rattle.std.proofs.Common.{IsTrue}
use Rattle.cdb_scratch.proofs.PlaceLaws.{place_by_multiple}
use Rattle.cdb_scratch.proofs.reach.has_place.Goals as goal

pub returns : goal.returns
returns c =
    place_by_multiple c.args.kind c.args.step c.args.inset c.args.near c.args.far c.args.low c.args.high _ _ _ _ _
    (IsTrue c.has_multiple.result)
    c.saturating_sub.ensures c.max.ensures c.past.ensures c.saturating_sub-2.ensures c.min.ensures
    c.has_multiple.ensures
