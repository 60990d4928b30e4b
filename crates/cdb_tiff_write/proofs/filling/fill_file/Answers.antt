use Rattle.cdb_tiff_write.proofs.OlderRows.{rows_filled}
use Rattle.cdb_tiff_write.proofs.filling.fill_file.Goals as goal

pub returns : goal.returns
returns c =
    rows_filled c.args.tile.now c.args.bytes.now c.args.frame.now c.change_part.new.frame
    c.kind_of.result c.bits.result c.side-side.result
    c.kind_of.ensures c.bits.ensures.value c.side-side.ensures.value c.change_part.ensures
