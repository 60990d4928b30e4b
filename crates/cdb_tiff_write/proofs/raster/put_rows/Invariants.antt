use Rattle.std.proofs.Common.{◌≡◌, ◌-◌, ◌*◌, drop}
use Rattle.cdb_model.specs.Text.{last_first}
use Rattle.cdb_tiff_write.specs.Rasters.{laid_row, row_of_frame}
use Rattle.cdb_tiff_write.proofs.raster.put_rows.Given as goal

abbrev pub invariant-loop-row : goal.invariant-loop-row
invariant-loop-row l = drop ((l.side - l.row) * l.size) l.to
    ≡ last_first l.row (λ row. laid_row l.family (row_of_frame l.side l.frame row))
