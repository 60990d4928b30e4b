use Rattle.cdb_source.proofs.TextLaws.{length-front_text}
use Rattle.cdb_source.proofs.DecodingLaws.{length-source_text, most-source_text}
use Rattle.cdb_source.proofs.laws.source_file_length.Goals as goal

pub returns-clause-front : goal.returns-clause-front
returns-clause-front c = length-front_text

pub returns-clause-whole : goal.returns-clause-whole
returns-clause-whole c = length-source_text

pub returns-clause-most : goal.returns-clause-most
returns-clause-most c = most-source_text
