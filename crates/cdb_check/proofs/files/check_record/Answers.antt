use Rattle.std.proofs.Common.{◌≡◌, ◌≤◌, ◌∙◌, length, ap, arith}
use Rattle.cdb_manifest.specs.Records.{record_bytes}
use Rattle.cdb_manifest.proofs.LengthLaws.{are_short}
use Rattle.cdb_check.proofs.files.check_record.Goals as goal

pub look_at-requires : goal.look_at-requires
look_at-requires g c =
    let r = c.args.record.now in
    let short : length (record_bytes r) ≤ 264980 = are_short r.version r.heads r.tiles r.in_range in
    let long : length c.as_slice.result.now ≡ length (record_bytes r) =
    ap length (c.as_slice.ensures.value ∙ c.in-Ok.ensures) in
    let room : length c.as_mut_slice.result.now ≡ length c.args.room.now.found.items =
    ap length c.as_mut_slice.ensures.value in
    omega (arith, short, long, room, c.requires.ready.found)
