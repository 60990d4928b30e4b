use Rattle.std.proofs.Common.{pos, arith}
use Rattle.std.proofs.lemmas.Int.{ints, wrapping_sub_is}
use mir.Syntax.{w16}
use Rattle.cdb_minmax.proofs.lowered.Goals as goal

pub returns : goal.returns
returns c = wrapping_sub_is w16 c.args.elevation (pos 1) c.ranges.elevation (omega (arith, ints))
