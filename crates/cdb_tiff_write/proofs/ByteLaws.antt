-- A tile's file depends on the sources that reach the tile alone.
use Rattle.std.proofs.Common.{◌≡◌, ℕ, zero, suc, ◌+◌, ◌<◌, ◌≤◌, List, [], ◌++◌, map, arith, ap, refl}
use Rattle.std.specs.List.{range_with_len}
use Rattle.cdb_grid.specs.Tiles.{tile_side}
use Rattle.cdb_grid.specs.declared.tile.Tile.{Tile}
use Rattle.cdb_source.specs.Posts.{coded}
use Rattle.cdb_source.specs.Reached.{kind_of, tile_value}
use Rattle.cdb_source.specs.Laws.{ReachingAlone}
use Rattle.cdb_source.specs.declared.source.Source.{Source}
use Rattle.cdb_model.specs.Text.{last_first}
use Rattle.cdb_model.specs.TileFile.{head_bytes, bits_of, family_row, row_numbers, tile_bytes}
use Rattle.cdb_model.specs.ByteLaws.{BytesByReaching}

-- rules that agree on numbers give the same list of them, and the same pieces
same_map : {X : Type 0} (f g : ℕ → X) (a n m : ℕ) → a + n ≤ m → ((i : ℕ) → i < m → f i ≡ g i)
    → map f (range_with_len a n) ≡ map g (range_with_len a n)
same_map f g a zero m le e = refl
same_map f g a (suc n) m le e = rw (e a (omega arith), same_map f g (a + 1) n m (omega arith) e) refl

same_pieces : {X : Type 0} (f g : ℕ → List X) (n m : ℕ) → n ≤ m → ((i : ℕ) → i < m → f i ≡ g i)
    → last_first n f ≡ last_first n g
same_pieces f g zero m le e = refl
same_pieces f g (suc n) m le e = rw (e n (omega arith), same_pieces f g n m (omega arith) e) refl

same_rows : (t : Tile) (ss ts : List Source)
    → ((row col : ℕ) → row < tile_side t → col < tile_side t → tile_value ss t row col ≡ tile_value ts t row col)
    → tile_bytes ss t ≡ tile_bytes ts t
unfolding tile_bytes
same_rows t ss ts e =
    let rows : (row : ℕ) → row < tile_side t → row_numbers ss t row ≡ row_numbers ts t row =
    λ row h. same_map (λ col. coded (kind_of t.family) (tile_value ss t row col))
    (λ col. coded (kind_of t.family) (tile_value ts t row col)) 0 (tile_side t) (tile_side t) (omega arith)
    (λ col k. ap (coded (kind_of t.family)) (e row col h k)) in
    ap (λ (raster : List ℕ). head_bytes (tile_side t) (bits_of t.family) ++ raster)
    (same_pieces (λ row. family_row t.family (row_numbers ss t row)) (λ row. family_row t.family (row_numbers ts t row))
    (tile_side t) (tile_side t) (omega arith) (λ row h. ap (family_row t.family) (rows row h)))

pub bytes_by_reaching : ReachingAlone → BytesByReaching
bytes_by_reaching law = record {
  same = λ t ss ts same. same_rows t ss ts (law.same t ss ts same);
  untouched = λ t ss ts none. same_rows t (ss ++ ts) ss (law.untouched t ss ts none);
  unreached = λ t ss none. same_rows t ss [] (λ row col h k. law.untouched t [] ss none row col h k);
}
