use Rattle.std.proofs.Common.{◌≡◌, ◌+◌, length}
use Rattle.cdb_value_rows.proofs.samples.source_at.Given as goal

abbrev pub invariant-loop-row : goal.invariant-loop-row
invariant-loop-row l = record {
  due : l.maker.due + l.row-index ≡ length l.rows;
  columns : l.maker.head.cols ≡ 2;
}
