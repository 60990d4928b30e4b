use Rattle.cdb_publish.proofs.FolderLists.{set_more}
use Rattle.cdb_publish.proofs.folders.push_once.Goals as goal

pub returns-in-Ok-clause-ok : goal.returns-in-Ok-clause-ok
returns-in-Ok-clause-ok c =
    set_more (λ f. f.bytes) c.args.folders.now.keys c.args.folder c.insert.new.self.keys c.in-Ok.ensures.keys
