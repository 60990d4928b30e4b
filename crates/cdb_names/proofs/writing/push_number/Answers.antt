use Rattle.std.proofs.Common.{length, ap, arith, rules}
use Rattle.cdb_names.proofs.writing.push_number.Goals as goal
use Rattle.cdb_names.proofs.LengthLaws.{seven}

pub push_str-requires : goal.push_str-requires
push_str-requires g c =
    (search rules, omega (arith, c.requires.room, seven c.args.n c.requires.small, ap length c.format.ensures.text))

pub returns-clause-len : goal.returns-clause-len
returns-clause-len g c =
    omega (arith, c.push_str.ensures.len, seven c.args.n c.requires.small, ap length c.format.ensures.text)
