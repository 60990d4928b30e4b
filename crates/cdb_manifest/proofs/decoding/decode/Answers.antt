use Rattle.cdb_manifest.proofs.DecodingLaws.{gives}
use Rattle.cdb_manifest.proofs.decoding.decode.Goals as goal

pub returns-clause-only : goal.returns-clause-only
returns-clause-only c = gives c.args.bytes.now c.record_of.result c.record_of.ensures.spelled c.record_of.ensures.bad
