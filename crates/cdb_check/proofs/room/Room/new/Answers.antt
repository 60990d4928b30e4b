use Rattle.std.proofs.Common.{arith}
use Rattle.cdb_check.proofs.room.Room.new.Goals as goal

pub returns : goal.returns
returns c = record {
  frame = omega (arith, c.in_ok-frame.ensures.len, c.in_ok-frame.frame.ok.0);
  bytes = omega (arith, c.in_ok-bytes.ensures.len, c.in_ok-bytes.bytes.ok.0);
  found = omega (arith, c.in_ok-found.ensures.len, c.in_ok-found.found.ok.0);
}
