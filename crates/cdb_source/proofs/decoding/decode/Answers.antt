use Rattle.cdb_source.proofs.DecodingLaws.{gives}
use Rattle.cdb_source.proofs.decoding.decode.Goals as goal

pub returns-clause-only : goal.returns-clause-only
returns-clause-only c = gives c.args.bytes.now c.source_of.result c.source_of.ensures.spelled c.source_of.ensures.bad
