use Rattle.std.proofs.Common.{◌≤◌, ◌+◌, length, ap, arith, lit<}
use Rattle.arrayvec.specs.ArrayString.{array_string_len}
use Rattle.cdb_names.proofs.NumberLaws.{up_small, right_small}
use Rattle.cdb_names.proofs.writing.write_name.Goals as goal

pub push_number-requires : goal.push_number-requires
push_number-requires c =
    let room : array_string_len c.push_str.new.self + 7 ≤ 64 = omega (arith, ap length c.new-text.ensures) in
    (lit< tt, (up_small c.args.tile.now, room))

pub push_number-requires-2 : goal.push_number-requires-2
push_number-requires-2 c =
    let room : array_string_len c.push_str-2.new.self + 7 ≤ 64 = omega (arith, ap length c.new-text.ensures) in
    (lit< tt, (right_small c.args.tile.now, room))
