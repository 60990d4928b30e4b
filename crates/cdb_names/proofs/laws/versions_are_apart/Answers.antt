use Rattle.cdb_names.proofs.VersionLaws.{folders_apart, head_apart, new_head_apart}
use Rattle.cdb_names.proofs.laws.versions_are_apart.Goals as goal

pub returns-clause-versions : goal.returns-clause-versions
returns-clause-versions c = folders_apart

pub returns-clause-head : goal.returns-clause-head
returns-clause-head c = head_apart

pub returns-clause-new_head : goal.returns-clause-new_head
returns-clause-new_head c = new_head_apart
