use Rattle.std.proofs.Common.{◌≡◌, map, take}
use Rattle.cdb_source.specs.Offers.{best}
use Rattle.cdb_source.specs.Values.{sampled, offer}
use Rattle.cdb_scratch.proofs.elevation.elevation.Given as goal

abbrev pub invariant-loop-source : goal.invariant-loop-source
invariant-loop-source l = l.best
    ≡ best (map (offer l.fn.height (record { north = l.fn.north; east = l.fn.east }))
    (map sampled (take l.source-index l.sources)))
