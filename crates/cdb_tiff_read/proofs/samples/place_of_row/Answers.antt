use Rattle.cdb_tiff_read.proofs.Rows.{opened_rows, opened_whole}
use Rattle.cdb_tiff_read.proofs.samples.place_of_row.Goals as goal

-- the strips of an opened image have rows
pub nonzero_div-r : goal.nonzero_div-r
nonzero_div-r c = opened_rows c.args.bytes.now c.args.image.now c.requires.opened

pub nonzero_rem-rows_before : goal.nonzero_rem-rows_before
nonzero_rem-rows_before c = opened_rows c.args.bytes.now c.args.image.now c.requires.opened

-- the row ends where its strip ends, at the latest
pub returns-clause-whole : goal.returns-clause-whole
returns-clause-whole c =
    rw (c.from.ensures, c.offset_of-offset.ensures)
    (opened_whole c.args.bytes.now c.args.image.now c.args.r c.requires.opened c.requires.within)
