use Rattle.std.proofs.Common.{length, ap, arith}
use Rattle.cdb_sessions.specs.Cache.{Cache}
use Rattle.cdb_sessions.proofs.CacheLaws.{few_kept}
use Rattle.cdb_sessions.proofs.cache.Cache.kept_are_few.Goals as goal

pub returns : goal.returns
returns c = omega (
  arith,
  ap (λ (s : Cache). length s.kept) c.self.view_is,
  few_kept c.self.inside.pool c.self.inside.slots.entries,
  c.self.invariant.count,
)
