-- Whether a tile has a window of a source, as a test.
use Rattle.std.proofs.Common.{◌≡◌, ℕ, ◌<◌, Bool, true, false, refl, ap, ◌∙◌, subst, arith}
use Rattle.std.specs.List.{list_any, range_with_len}
use Rattle.std.proofs.lemmas.List.Folds.{list_any_at, list_any_none}
use Rattle.std.proofs.lemmas.List.FromFn.{length-range_with_len, get_or-range_with_len}
use Rattle.std.proofs.Common.{get_or}
use Rattle.std.proofs.lemmas.Bool.{and_from, and_left, and_right, false_from_ne_true}
use Rattle.cdb_grid.specs.Tiles.{tile_side, element_place}
use Rattle.cdb_grid.specs.declared.tile.Tile.{Tile}
use Rattle.cdb_source.specs.Reached.{kind_of}
use Rattle.cdb_source.specs.Sample.{is_in_box}
use Rattle.cdb_source.specs.Values.{same_kind}
use Rattle.cdb_source.specs.declared.head.SourceHead.{SourceHead}
use Rattle.cdb_source.specs.declared.kind.Kind.{Kind}
use Rattle.cdb_source.specs.declared.kind.Kind.TheVariants.{Elevation, Material}
use Rattle.cdb_source.proofs.SampleLaws.{in_box}
use Rattle.cdb_cut.specs.Window.{HasPlaceInBox, HasNoWindow, IsWindow, has_place, has_window}
use Rattle.cdb_cut.proofs.PaintLaws.{box_test}

same_true : (k l : Kind) → k ≡ l → same_kind k l ≡ true
same_true k l e = subst (λ m. same_kind k m ≡ true) e (self k)
  where
    self : (m : Kind) → same_kind m m ≡ true
    self Elevation = refl
    self Material = refl

pub same_from : (k l : Kind) → same_kind k l ≡ true → k ≡ l
same_from Elevation Elevation e = refl
same_from Elevation Material e = absurd cc
same_from Material Elevation e = absurd cc
same_from Material Material e = refl

place_true : (head : SourceHead) (t : Tile) → HasPlaceInBox head t → has_place head t ≡ true
unfolding has_place
place_true head t p =
    let n = tile_side t in
    let row : get_or (range_with_len 0 n) p.row 0 ≡ p.row =
    omega (arith, get_or-range_with_len 0 n p.row 0 p.row_below) in
    let col : get_or (range_with_len 0 n) p.col 0 ≡ p.col =
    omega (arith, get_or-range_with_len 0 n p.col 0 p.col_below) in
    let inner : list_any (λ c. is_in_box head (element_place t p.row c)) (range_with_len 0 n) ≡ true =
    list_any_at (λ c. is_in_box head (element_place t p.row c)) (range_with_len 0 n) p.col 0
    (omega (arith, length-range_with_len 0 n, p.col_below))
    (ap (λ c. is_in_box head (element_place t p.row c)) col ∙ box_test head (element_place t p.row p.col) p.inside) in
    list_any_at (λ r. list_any (λ c. is_in_box head (element_place t r c)) (range_with_len 0 n)) (range_with_len 0 n)
    p.row 0 (omega (arith, length-range_with_len 0 n, p.row_below))
    (ap (λ r. list_any (λ c. is_in_box head (element_place t r c)) (range_with_len 0 n)) row ∙ inner)

place_false : (head : SourceHead) (t : Tile) → (HasPlaceInBox head t → ⊥) → has_place head t ≡ false
unfolding has_place
place_false head t none =
    let n = tile_side t in
    list_any_none (λ r. list_any (λ c. is_in_box head (element_place t r c)) (range_with_len 0 n))
    (range_with_len 0 n) (λ i d l.
    let i_below : i < n = omega (arith, length-range_with_len 0 n, l) in
    let row : get_or (range_with_len 0 n) i d ≡ i = omega (arith, get_or-range_with_len 0 n i d i_below) in
    ap (λ r. list_any (λ c. is_in_box head (element_place t r c)) (range_with_len 0 n)) row
    ∙ list_any_none (λ c. is_in_box head (element_place t i c)) (range_with_len 0 n) (λ j e m.
    let j_below : j < n = omega (arith, length-range_with_len 0 n, m) in
    let col : get_or (range_with_len 0 n) j e ≡ j = omega (arith, get_or-range_with_len 0 n j e j_below) in
    ap (λ c. is_in_box head (element_place t i c)) col
    ∙ false_from_ne_true (is_in_box head (element_place t i j))
    (λ yes. none
    (record {
      row = i;
      col = j;
      row_below = i_below;
      col_below = j_below;
      inside = in_box head (element_place t i j) yes;
    }))))

pub no_rows : (head : SourceHead) (t : Tile) → HasNoWindow head t → has_window head t ≡ false
no_rows head t none = by (same_kind head.kind (kind_of t.family)) refl
  where
    by : (b : Bool) → same_kind head.kind (kind_of t.family) ≡ b → has_window head t ≡ false
    by true e = and_right (same_kind head.kind (kind_of t.family)) _ (place_false head t (none (same_from _ _ e)))
    by false e = and_left _ _ e

pub some_rows : (head : SourceHead) (t : Tile) (first count : ℕ) → IsWindow head t first count
    → has_window head t ≡ true
some_rows head t first count w = and_from _ _ (same_true head.kind (kind_of t.family) w.kind)
    (place_true head t w.first_looked.place)
