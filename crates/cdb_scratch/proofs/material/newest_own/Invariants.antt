use Rattle.std.proofs.Common.{◌≡◌, map, take}
use Rattle.cdb_source.specs.declared.kind.Kind.TheVariants.{Material}
use Rattle.cdb_source.specs.Values.{sampled, newest_own}
use Rattle.cdb_scratch.proofs.material.newest_own.Given as goal

abbrev pub invariant-loop-source : goal.invariant-loop-source
invariant-loop-source l = l.newest ≡ newest_own Material (map sampled (take l.source-index l.sources))
    l.fn.at (record { north = l.fn.north; east = l.fn.east })
