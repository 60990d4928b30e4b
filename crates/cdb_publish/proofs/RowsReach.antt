-- A source of which a tile takes rows reaches the tile.
use Rattle.std.proofs.Common.{◌≡◌, ℕ, ◌<◌, true, sym, ap, subst, arith}
use Rattle.std.specs.List.{list_any, range_with_len}
use Rattle.std.proofs.lemmas.Bool.Decides.{Decides-int_eq}
use Rattle.std.proofs.lemmas.List.Folds.{Any-from_list_any}
use Rattle.std.proofs.lemmas.List.FromFn.{length-range_with_len, get_or-range_with_len}
use Rattle.std.proofs.lemmas.Bool.{and_parts}
use Rattle.cdb_grid.specs.Grid.{IsCorner}
use Rattle.cdb_grid.specs.Tiles.{tile_side, tile_height, element_corner, element_place, place_in, IsInTile}
use Rattle.cdb_grid.specs.Units.{height_of}
use Rattle.cdb_grid.specs.declared.tile.Tile.{Tile}
use Rattle.cdb_grid.proofs.ElementLaws.{element-corner, place-in-tile}
use Rattle.cdb_source.specs.Reached.{kind_of, source_height}
use Rattle.cdb_source.specs.Sample.{IsInBox, is_in_box}
use Rattle.cdb_source.specs.Values.{same_kind}
use Rattle.cdb_source.specs.declared.head.SourceHead.{SourceHead}
use Rattle.cdb_source.proofs.SampleLaws.{in_box}
use Rattle.cdb_cut.specs.Window.{HasPlaceInBox, has_place, has_window}
use Rattle.cdb_cut.proofs.WindowTests.{same_from}
use Rattle.cdb_publish.specs.Laws.{RowsReach}

place_from : (head : SourceHead) (t : Tile) → has_place head t ≡ true → HasPlaceInBox head t
unfolding has_place
place_from head t h =
    let n : ℕ = tile_side t in
    let a = Any-from_list_any (λ row. list_any (λ col. is_in_box head (element_place t row col))
    (range_with_len 0 (tile_side t))) (range_with_len 0 (tile_side t)) h in
    let b = Any-from_list_any (λ col. is_in_box head (element_place t a.1 col)) (range_with_len 0 (tile_side t)) a.4 in
    let row_in : a.0 < tile_side t = omega (arith, length-range_with_len 0 (tile_side t), a.2) in
    let col_in : b.0 < tile_side t = omega (arith, length-range_with_len 0 (tile_side t), b.2) in
    record {
      row = a.1;
      col = b.1;
      row_below = omega (arith, row_in, a.3, get_or-range_with_len 0 (tile_side t) a.0 a.1 row_in);
      col_below = omega (arith, col_in, b.3, get_or-range_with_len 0 (tile_side t) b.0 b.1 col_in);
      inside = in_box head (element_place t a.1 b.1) b.4;
    }

pub rows_reach : RowsReach
rows_reach head t takes =
    let first = and_parts _ (has_window head t) takes in
    let second = and_parts (same_kind head.kind (kind_of t.family)) (has_place head t) first.1 in
    let level : head.level.number ≡ t.level.number = (Decides-int_eq head.level.number t.level.number).0 first.0 in
    let height : tile_height t ≡ source_height head = ap height_of (sym level) in
    let p : HasPlaceInBox head t = place_from head t second.1 in
    let G : ℕ → Type 0 = λ h. IsCorner h (element_corner t p.row p.col) in
    let T : ℕ → Type 0 = λ h. IsInTile t (place_in t.family h (element_corner t p.row p.col)) in
    let B : ℕ → Type 0 = λ h. IsInBox head (place_in t.family h (element_corner t p.row p.col)) in (
      level,
      record {
        kind = same_from head.kind (kind_of t.family) second.0;
        level = omega (arith, height);
        corner = element_corner t p.row p.col;
        on_grid = subst G height (element-corner t p.row p.col p.row_below p.col_below);
        in_tile = subst T height (place-in-tile t p.row p.col p.row_below p.col_below);
        in_box = subst B height p.inside;
      },
    )
