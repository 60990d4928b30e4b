use Rattle.std.proofs.Common.{◌≡◌, ◌≤◌, ℤ, List, length, take, arith}
use Rattle.std.proofs.lemmas.List.{length-take-le}
use Rattle.cdb_tiff_write.proofs.FourSamples.{row_under}
use Rattle.cdb_tiff_write.proofs.folding.fold_two_rows.Goals as goal

pub returns : goal.returns
returns g c =
    let f = c.args.finer.now in
    let long : (xs : List ℤ) → length xs ≡ 1024 → f.side ≤ length (take f.side xs) = λ xs e.
    let all : f.side ≤ length xs = omega (arith, e, c.requires.rows.small) in
    omega (arith, length-take-le f.side xs all) in
    row_under g.F.FourRule.of_four f.bits f.bytes.now f.side c.args.row (length c.args.part.now) c.args.part.now
    c.fold_row.new.part _ c.read_row.new.to _ c.read_row-2.new.to c.requires.rows.high c.requires.rows.wide
    (long c.args.south.now c.requires.south) (long c.args.north.now c.requires.north)
    c.read_row.ensures c.read_row-2.ensures c.fold_row.ensures
