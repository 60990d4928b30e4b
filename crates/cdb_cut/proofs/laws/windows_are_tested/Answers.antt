use Rattle.cdb_cut.proofs.WindowTests.{no_rows, some_rows}
use Rattle.cdb_cut.proofs.laws.windows_are_tested.Goals as goal

pub returns : goal.returns
returns c = record { none = no_rows; some = some_rows }
