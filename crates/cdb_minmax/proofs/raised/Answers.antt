use Rattle.std.proofs.Common.{pos, arith}
use Rattle.std.proofs.lemmas.Int.{ints, wrapping_add_is}
use mir.Syntax.{w16}
use Rattle.cdb_minmax.proofs.raised.Goals as goal

pub returns : goal.returns
returns c = wrapping_add_is w16 c.args.number (pos 1) c.ranges.number (omega (arith, ints))
