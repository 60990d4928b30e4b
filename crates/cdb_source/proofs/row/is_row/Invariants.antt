use Rattle.std.proofs.Common.{All, IsTrue, ◌↔◌, take}
use Rattle.cdb_source.specs.Posts.{IsAllowed}
use Rattle.cdb_source.proofs.row.is_row.Given as goal

-- the flag is the answer for the numbers before the one at hand
abbrev pub invariant-loop-number : goal.invariant-loop-number
invariant-loop-number l = IsTrue l.all ↔ All (IsAllowed l.fn.kind l.fn.novalue) (take l.number-index l.row)
