-- A frame filled from the rows of a file.
use Rattle.std.proofs.Common.{◌≡◌, ℕ, ◌+◌, ◌-◌, ◌*◌, ℤ, List, ap, sym, subst, ◌∙◌, arith}
use Rattle.std.specs.Option.{option_or}
use Rattle.cdb_grid.specs.Tiles.{tile_side}
use Rattle.cdb_grid.specs.Frames.{number_at, IsPartChanged}
use Rattle.cdb_grid.specs.declared.tile.Tile.{Tile}
use Rattle.cdb_source.specs.declared.kind.Kind.{Kind}
use Rattle.cdb_source.specs.Posts.{coded}
use Rattle.cdb_source.specs.Sample.{value_of}
use Rattle.cdb_source.specs.Reached.{kind_of}
use Rattle.cdb_cut.specs.OneTile.{IsFilled}
use Rattle.cdb_model.specs.TileFile.{bits_of}
use Rattle.cdb_tiff_write.specs.Samples.{frame_in}
use Rattle.cdb_tiff_write.specs.inside.Older.{or_sample}
use Rattle.cdb_tiff_write.proofs.FrameIn.{frame_number}

module _ (t : Tile) (bytes : List ℕ) (old new : List ℤ) where
  abbrev Filled : Kind → ℕ → ℕ → Type 0
  Filled k b n = IsPartChanged (λ row col. or_sample k b bytes ((n - 1 - row) * n + col)) 0 0 n n n old new

  filled : Filled (kind_of t.family) (bits_of t.family) (tile_side t)
      → IsFilled t (frame_in (bits_of t.family) bytes (tile_side t)) old new
  filled all = record {
    size = all.size;
    each = λ row col a b.
        let n = tile_side t in let k : Kind = kind_of t.family in
        let zr : 0 + row ≡ row = omega arith in let zc : 0 + col ≡ col = omega arith in
        let older : ℤ = number_at (frame_in (bits_of t.family) bytes n) n row col in
        let filling : ℤ → ℤ → ℤ = λ own other. coded k (option_or (value_of k own) (value_of k other)) in
        subst (λ r. number_at new n r col ≡ filling (number_at old n r col) older) zr
        (subst (λ c. number_at new n (0 + row) c ≡ filling (number_at old n (0 + row) c) older) zc
        (all.changed row col a b
        ∙ ap (filling (number_at old n (0 + row) (0 + col)))
        (sym (frame_number (bits_of t.family) bytes n row col a b))));
  }

  pub rows_filled : (kind : Kind) (bits side : ℕ)
      → kind ≡ kind_of t.family → bits ≡ bits_of t.family → side ≡ tile_side t
      → Filled kind bits side → IsFilled t (frame_in (bits_of t.family) bytes (tile_side t)) old new
  rows_filled kind bits side ek eb es is =
      filled (subst (λ n. Filled (kind_of t.family) (bits_of t.family) n) es
      (subst (λ b. Filled (kind_of t.family) b side) eb (subst (λ k. Filled k bits side) ek is)))
