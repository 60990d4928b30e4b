use Rattle.std.proofs.Common.{◌∙◌, sym, ap, length}
use Rattle.cdb_tiff_write.proofs.SizeLaws.{are_sized}
use Rattle.cdb_engine.proofs.tile_sums.sum_of_file.Goals as goal

pub returns-then-bytes-tile_size-clause-sum : goal.returns-then-bytes-tile_size-clause-sum
returns-then-bytes-tile_size-clause-sum c = λ ss e.
    absurd (c.if-bytes-tile_size.true (ap length e ∙ are_sized.length_is ss c.args.tile.now
    ∙ sym c.tile_size.ensures.value))
