use Rattle.cdb_source.proofs.HeadLaws.{head_spelled, head_only}
use Rattle.cdb_source.proofs.decoding.decode_head.Goals as goal

pub returns-clause-spelled : goal.returns-clause-spelled
returns-clause-spelled c = head_spelled c.args.bytes.now c.head_of.result c.told-bytes c.fits-bytes c.head_of.ensures

pub returns-clause-only : goal.returns-clause-only
returns-clause-only c = head_only c.args.bytes.now c.head_of.result c.head_of.ensures
