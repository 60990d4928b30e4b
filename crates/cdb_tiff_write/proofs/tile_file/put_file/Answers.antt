use Rattle.std.proofs.Common.{◌≡◌, ◌∙◌, ◌*◌, ◌/◌, ◌++◌, ap, sym, arith, mul_assoc}
use Rattle.cdb_grid.specs.Tiles.{tile_side}
use Rattle.cdb_model.specs.Text.{last_first}
use Rattle.cdb_model.specs.TileFile.{bits_of, head_bytes}
use Rattle.cdb_tiff_write.specs.Rasters.{laid_row, row_of_frame}
use Rattle.cdb_tiff_write.proofs.RasterLaws.{frame_file}
use Rattle.cdb_tiff_write.proofs.tile_file.put_file.Goals as goal

pub put_rows-requires-clause-length : goal.put_rows-requires-clause-length
put_rows-requires-clause-length c =
    let t = c.args.tile.now in let b = bits_of t.family / 8 in
    let e : tile_side t * tile_side t * b ≡ c.side-side.result * (c.side-side.result * b) =
    mul_assoc (tile_side t) (tile_side t) b ∙ ap (λ s. s * (s * b)) (sym c.side-side.ensures.value) in
    omega (arith, c.split_at_mut-first.ensures.back_len, c.requires.bytes, e)

pub returns-clause-laid : goal.returns-clause-laid
returns-clause-laid c =
    let t = c.args.tile.now in let f = c.args.frame.now in
    ap (λ l. l ++ c.put_rows.new.to) (c.copy_from_slice.ensures.after ∙ c.head.ensures
    ∙ ap (λ s. head_bytes s c.bits.result) c.side-side.ensures.value
    ∙ ap (λ b. head_bytes (tile_side t) b) c.bits.ensures.value)
    ∙ ap (λ l. head_bytes (tile_side t) (bits_of t.family) ++ l)
    (c.put_rows.ensures ∙ ap (λ s. last_first s (λ row. laid_row t.family (row_of_frame s f row)))
    c.side-side.ensures.value)

pub returns-clause-file : goal.returns-clause-file
returns-clause-file c ss is =
    let t = c.args.tile.now in let f = c.args.frame.now in
    ap (λ l. l ++ c.put_rows.new.to) (c.copy_from_slice.ensures.after ∙ c.head.ensures
    ∙ ap (λ s. head_bytes s c.bits.result) c.side-side.ensures.value
    ∙ ap (λ b. head_bytes (tile_side t) b) c.bits.ensures.value)
    ∙ ap (λ l. head_bytes (tile_side t) (bits_of t.family) ++ l)
    (c.put_rows.ensures ∙ ap (λ s. last_first s (λ row. laid_row t.family (row_of_frame s f row)))
    c.side-side.ensures.value)
    ∙ frame_file ss t f is
