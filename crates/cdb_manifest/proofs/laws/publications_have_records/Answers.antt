use Rattle.cdb_manifest.proofs.PublicationLaws.{publications}
use Rattle.cdb_manifest.proofs.laws.publications_have_records.Goals as goal

pub returns : goal.returns
returns c = publications
