use Rattle.std.proofs.Common.{◌≡◌, ◌++◌, take}
use Rattle.cdb_model.specs.Records.{heads_text}
use Rattle.cdb_manifest.proofs.encoding.put_heads.Given as goal

abbrev pub invariant-loop-head : goal.invariant-loop-head
invariant-loop-head l = l.out.items ≡ l.initial.out.items ++ heads_text (take l.head-index l.heads)
