use Rattle.cdb_names.proofs.PathResults.{path_found, path_versions, path_only, path_wrong}
use Rattle.cdb_names.proofs.path_reading.read_path.Goals as goal

pub returns-clause-version : goal.returns-clause-version
returns-clause-version c = path_versions c.args.text.now c.read_whole_path.result c.read_whole_path.ensures

pub returns-clause-found : goal.returns-clause-found
returns-clause-found c = path_found c.args.text.now c.read_whole_path.result c.read_whole_path.ensures

pub returns-clause-only : goal.returns-clause-only
returns-clause-only c = path_only c.args.text.now c.read_whole_path.result c.read_whole_path.ensures

pub returns-clause-wrong : goal.returns-clause-wrong
returns-clause-wrong c = path_wrong c.args.text.now c.read_whole_path.result c.read_whole_path.ensures
