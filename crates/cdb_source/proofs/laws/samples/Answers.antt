use Rattle.cdb_source.proofs.SampleLaws.{in_box_of_sample, rounded-least, rounded-most}
use Rattle.cdb_source.proofs.laws.samples.Goals as goal

pub returns : goal.returns
returns c = record { inside = in_box_of_sample; least = rounded-least; most = rounded-most }
