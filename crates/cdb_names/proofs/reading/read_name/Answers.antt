use Rattle.cdb_names.proofs.NameResults.{name_found, name_only, name_wrong}
use Rattle.cdb_names.proofs.reading.read_name.Goals as goal

pub returns-clause-found : goal.returns-clause-found
returns-clause-found c = name_found c.args.text.now c.read_name_in.result c.read_name_in.ensures

pub returns-clause-only : goal.returns-clause-only
returns-clause-only c = name_only c.args.text.now c.read_name_in.result c.read_name_in.ensures

pub returns-clause-wrong : goal.returns-clause-wrong
returns-clause-wrong c = name_wrong c.args.text.now c.read_name_in.result c.read_name_in.ensures
