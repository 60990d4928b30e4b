use Rattle.std.proofs.Common.{◌/◌, ap}
use Rattle.cdb_tiff_write.proofs.RasterLaws.{raster_more}
use Rattle.cdb_tiff_write.proofs.raster.put_rows.Goals as goal

pub loop-row-preserved : goal.loop-row-preserved
loop-row-preserved c =
    raster_more c.args.family c.args.side c.loop-row.row _ c.args.frame.now c.loop-row.to c.put_row_at.new.to
    c.loop-row-test.true c.requires.frame (ap (λ n. n / 8) c.bits.ensures.value)
    c.put_row_at.ensures c.loop-row.invariant
