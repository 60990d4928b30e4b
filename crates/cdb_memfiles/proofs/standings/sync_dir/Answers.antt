use Rattle.std.proofs.Common.{rules}
use Rattle.cdb_memfiles.specs.Standing.{shown}
use Rattle.cdb_memfiles.proofs.StandingLaws.{retain-kept}
use Rattle.cdb_memfiles.proofs.standings.sync_dir.Goals as goal

pub returns : goal.returns
unfolding shown
returns c q = retain-kept _ c.args.folder.now.bytes q _ (λ k v b w g call. search rules) _ _ c.retain.ensures.filtered
