use Rattle.std.proofs.Common.{◌≤◌, ◌+◌, append_assoc, arith, lit<}
use Rattle.arrayvec.specs.ArrayString.{array_string_len}
use Rattle.cdb_names.proofs.NumberLaws.{up_small, right_small}
use Rattle.cdb_names.proofs.paths.push_folder.Goals as goal

pub push_number-requires : goal.push_number-requires
push_number-requires c =
    let room : array_string_len c.push_str-5.new.self + 7 ≤ 128 = omega arith in
    (lit< tt, (omega (arith, up_small c.args.tile.now, right_small c.args.tile.now), room))

pub returns-clause-bytes : goal.returns-clause-bytes
returns-clause-bytes c =
    rw (
      c.push_number.ensures.bytes,
      c.push_str-5.ensures.bytes,
      c.push_level_folder.ensures.bytes,
      c.push_str-4.ensures.bytes,
      c.push_dataset_folder.ensures.bytes,
      c.push_str-3.ensures.bytes,
      c.push_longitude.ensures.bytes,
      c.push_str-2.ensures.bytes,
      c.push_latitude.ensures.bytes,
      c.push_str.ensures.bytes,
      c.push_version.ensures.bytes,
    ) (simp append_assoc)
