use Rattle.std.proofs.Common.{◌≡◌, ◌++◌, length}
use Rattle.cdb_model.specs.Records.{heads_text}
use Rattle.cdb_manifest.proofs.decoding.heads_at.Given as goal

abbrev pub invariant-loop-k : goal.invariant-loop-k
invariant-loop-k l = record {
  read : l.fn.bytes ≡ heads_text l.heads.items ++ l.rest;
  count : length l.heads.items ≡ l.k;
}
