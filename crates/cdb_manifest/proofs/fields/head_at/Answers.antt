use Rattle.cdb_manifest.proofs.FieldLaws.{head_short, head_other}
use Rattle.cdb_manifest.proofs.fields.head_at.Goals as goal

pub returns-then-bytes-lt44 : goal.returns-then-bytes-lt44
returns-then-bytes-lt44 c = head_short c.args.bytes.now c.if-bytes-lt44.true

pub returns-in_err-head : goal.returns-in_err-head
returns-in_err-head c =
    rw c.from_residual.ensures
    (head_other c.args.bytes.now c.split_at.result.0.now c.front_of.result c.split_at.ensures.front c.front_of.ensures
    (λ head e. let no_head = c.in_err-head.ensures.only head e in absurd cc))
