-- Where the elements of a finer tile stand in the coarser tile that holds it.
use Rattle.std.proofs.Common.{◌≡◌, ℕ, suc, ◌+◌, ◌*◌, ◌/◌, ◌<◌, ◌≤◌, ◌⊎◌, inl, inr, refl, sym, ap, ◌∙◌, subst, arith}
use Rattle.std.proofs.lemmas.Bool.{cases_lt}
use Rattle.cdb_grid.specs.Units.{degree, step, side_of, width_at, row_of, column_of}
use Rattle.cdb_grid.specs.Grid.{Place, step_east, beside}
use Rattle.cdb_grid.specs.Tiles.{tile_height, tile_side, tile_step_east, element_corner, IsInTile}
use Rattle.cdb_grid.specs.Frames.{IsBeside}
use Rattle.cdb_grid.specs.Children.{IsParent, IsRefined}
use Rattle.cdb_grid.specs.declared.tile.Tile.{Tile}
use Rattle.cdb_grid.proofs.UnitLaws.{step-suc, step-pos, width-pos}
use Rattle.cdb_grid.proofs.GridLaws.{same_place, count_step}
use Rattle.cdb_grid.proofs.TileLaws.{tile_height-most}
use Rattle.cdb_grid.proofs.PyramidLaws.{parent-halved, side-fine, side-coarse}
use Rattle.cdb_grid.proofs.ElementLaws.{width_of-element}
use Rattle.std.proofs.Math.Nat.{mul-pos}

-- along one axis: so many halves of a step from where the finer tile begins
along_child : (bt bc u side at k s big r i : ℕ) → big ≡ 2 * s → bt + (u * side + at) * big ≡ bc + (k + 0) * s
    → bc + (k + (2 * r + i)) * s ≡ bt + (u * side + (at + r)) * big + i * s
along_child bt bc u side at k s big r i eb e =
    let f : bt + (u * side + at) * (2 * s) ≡ bc + (k + 0) * s = ap (λ x. bt + (u * side + at) * x) (sym eb) ∙ e in
    regroup f ∙ sym (ap (λ x. bt + (u * side + (at + r)) * x + i * s) eb)
  where
    regroup : bt + (u * side + at) * (2 * s) ≡ bc + (k + 0) * s → bc + (k + (2 * r + i)) * s
        ≡ bt + (u * side + (at + r)) * (2 * s) + i * s
    regroup f = omega arith

pub height-under : (c t : Tile) → IsParent c t → tile_height t ≡ suc (tile_height c)
height-under c t p = let h = parent-halved c t p in h.above

wide_step : (c t : Tile) → IsParent c t → tile_step_east t ≡ 2 * tile_step_east c
wide_step c t p =
    let h = parent-halved c t p in
    ap (λ (x : ℕ). width_at (row_of t.cell.lat) * step x) h.above
    ∙ ap (λ (x : ℕ). width_at (row_of t.cell.lat) * x) (step-suc (tile_height c))
    ∙ twice (width_at (row_of t.cell.lat)) (step (tile_height c))
    ∙ ap (λ g. 2 * (width_at (row_of g.lat) * step (tile_height c))) h.cell
  where
    twice : (w s : ℕ) → w * (2 * s) ≡ 2 * (w * s)
    twice w s = omega arith

-- a finer tile that begins at the element of a row and a column of its parent
module _ (c t : Tile) (row col : ℕ) (parent : IsParent c t)
    (begins : element_corner t row col ≡ element_corner c 0 0) where
  big_step : step (tile_height t) ≡ 2 * step (tile_height c)
  big_step = ap step (height-under c t parent) ∙ step-suc (tile_height c)

  pub child_north : (r i k l : ℕ) → (element_corner c (2 * r + i) k).north
      ≡ (element_corner t (row + r) l).north + i * step (tile_height c)
  child_north r i k l =
      along_child (row_of t.cell.lat * degree) (row_of c.cell.lat * degree) t.up (tile_side t) row (c.up * tile_side c)
      (step (tile_height c)) (step (tile_height t)) r i big_step
      (ap (λ (p : Place). p.north) begins)

  pub child_east : (q j k l : ℕ) → (element_corner c k (2 * q + j)).east
      ≡ (element_corner t l (col + q)).east + j * tile_step_east c
  child_east q j k l =
      along_child (column_of t.cell.lon * degree) (column_of c.cell.lon * degree) t.right (tile_side t) col
      (c.right * tile_side c) (tile_step_east c) (tile_step_east t) q j (wide_step c t parent)
      (ap (λ (p : Place). p.east) begins)

  -- one of an even row and an even column stands at the corner of a coarser one
  pub child_even : (r q : ℕ) → element_corner c (2 * r) (2 * q) ≡ element_corner t (row + r) (col + q)
  child_even r q = same_place _ _ (plain_north (child_north r 0 (2 * q) (col + q)))
      (plain_east (child_east q 0 (2 * r) (row + r)))
    where
      plain_north : (element_corner c (2 * r + 0) (2 * q)).north
          ≡ (element_corner t (row + r) (col + q)).north + 0 * step (tile_height c)
          → (element_corner c (2 * r) (2 * q)).north ≡ (element_corner t (row + r) (col + q)).north
      plain_north e = omega arith

      plain_east : (element_corner c (2 * r) (2 * q + 0)).east
          ≡ (element_corner t (row + r) (col + q)).east + 0 * tile_step_east c → (element_corner c (2 * r) (2 * q)).east
          ≡ (element_corner t (row + r) (col + q)).east
      plain_east e = omega arith

  step_under : (r l : ℕ) → row + r < tile_side t → step_east (tile_height c) (element_corner t (row + r) l)
      ≡ tile_step_east c
  step_under r l lt =
      let h = parent-halved c t parent in
      ap (λ (w : ℕ). w * step (tile_height c)) (width_of-element t (row + r) l lt)
      ∙ ap (λ g. width_at (row_of g.lat) * step (tile_height c)) h.cell

  -- the elements of the finer tile are the finer cells under the elements of the coarser one
  pub child_corner_at : (r q i j : ℕ) → row + r < tile_side t
      → element_corner c (2 * r + i) (2 * q + j) ≡ beside (tile_height c) (element_corner t (row + r) (col + q)) i j
  child_corner_at r q i j lt =
      same_place _ _ (child_north r i (2 * q + j) (col + q))
      (child_east q j (2 * r + i) (row + r)
      ∙ sym (ap (λ (s : ℕ). (element_corner t (row + r) (col + q)).east + j * s) (step_under r (col + q) lt)))

  pub even : tile_side c ≡ 2 * (tile_side c / 2)
  even = by (cases_lt (tile_height c) 25)
    where
      halved : (n m : ℕ) → n ≡ 2 * m → n ≡ 2 * (n / 2)
      halved n m e = omega arith

      by : (tile_height c < 25) ⊎ (25 ≤ tile_height c) → tile_side c ≡ 2 * (tile_side c / 2)
      by (inl lt) = rw (side-fine (tile_height c) (omega arith)) refl
      by (inr ge) = let m = tile_height-most t in let a = height-under c t parent in
          halved (tile_side c) (side_of (suc (tile_height c))) (side-coarse (tile_height c) (omega arith) (omega arith))

  not_before : (b n s x y : ℕ) → 0 < s → b + (n + x) * s ≤ b + (n + y) * s → x ≤ y
  not_before b n s x y p le = elim (cases_lt y x) [
    | inl lt ↦ let k : (n + y) * s + s ≤ (n + x) * s = count_step (n + y) (n + x) s (omega arith) in
        absurd (omega arith)
    | inr ge ↦ ge
  ]

  before : (b n s x y : ℕ) → 0 < s → b + (n + x) * s < b + (n + y) * s → x < y
  before b n s x y p lt = elim (cases_lt x y) [
    | inl l ↦ l
    | inr ge ↦ absurd (no ge)
  ]
    where
      no : y ≤ x → ⊥
      no ge = elim (cases_lt y x) [
        | inl l ↦ let k : (n + y) * s + s ≤ (n + x) * s = count_step (n + y) (n + x) s (omega arith) in omega arith
        | inr g ↦ let e : x ≡ y = omega arith in
            let f : b + (n + x) * s ≡ b + (n + y) * s = ap (λ z. b + (n + z) * s) e in omega arith
      ]

  -- an element of the coarser tile in the finer one is in its part
  pub record InPart (r q : ℕ) : Type 0 where
    pub south : row ≤ r
    pub north : r < row + tile_side c / 2
    pub west : col ≤ q
    pub east : q < col + tile_side c / 2

  pub in_part : (r q : ℕ) → IsInTile c (element_corner t r q) → InPart r q
  in_part r q i =
      let half : ℕ = tile_side c / 2 in
      let p : 0 < step (tile_height t) = step-pos (tile_height t) in
      let w : 0 < tile_step_east t = mul-pos (width-pos (row_of t.cell.lat)) p in
      let n = child_north half 0 0 0 in
      let e = child_east half 0 0 0 in
      let ends : tile_side c ≡ 2 * half + 0 = even ∙ (omega arith) in
      let south : (element_corner t row q).north ≤ (element_corner t r q).north =
      subst (λ (x : Place). x.north ≤ (element_corner t r q).north) (sym begins) i.south in
      let west : (element_corner t r col).east ≤ (element_corner t r q).east =
      subst (λ (x : Place). x.east ≤ (element_corner t r q).east) (sym begins) i.west in
      let north_end : (element_corner t r q).north < (element_corner t (row + half) q).north = let b =
      subst (λ x. (element_corner t r q).north < (element_corner c x 0).north) ends i.north in omega arith in
      let east_end : (element_corner t r q).east < (element_corner t r (col + half)).east = let b =
      subst (λ x. (element_corner t r q).east < (element_corner c 0 x).east) ends i.east in omega arith in
      record {
        south = not_before (row_of t.cell.lat * degree) (t.up * tile_side t) (step (tile_height t)) row r p south;
        north = before (row_of t.cell.lat * degree) (t.up * tile_side t) (step (tile_height t)) r
            (row + half) p north_end;
        west = not_before (column_of t.cell.lon * degree) (t.right * tile_side t) (tile_step_east t) col q w west;
        east = before (column_of t.cell.lon * degree) (t.right * tile_side t) (tile_step_east t) q
            (col + half) w east_end;
      }

  -- an element is in the part, or beside it
  pub part_or_beside : (r q : ℕ) → InPart r q
      ⊎ ((IsBeside row (tile_side c / 2) r) ⊎ (IsBeside col (tile_side c / 2) q))
  part_or_beside r q =
      elim (cases_lt r row) [
        | inl a ↦ inr (inl (inl a))
        | inr b ↦ elim (cases_lt r (row + tile_side c / 2)) [
          | inr d ↦ inr (inl (inr d))
          | inl e ↦ elim (cases_lt q col) [
            | inl f ↦ inr (inr (inl f))
            | inr g ↦ elim (cases_lt q (col + tile_side c / 2)) [
              | inr h ↦ inr (inr (inr h))
              | inl k ↦ inl (record { south = b; north = e; west = g; east = k })
            ]
          ]
        ]
      ]

  pub beside_out : (r q : ℕ) → (IsBeside row (tile_side c / 2) r) ⊎ (IsBeside col (tile_side c / 2) q)
      → IsInTile c (element_corner t r q) → ⊥
  beside_out r q b i = let p = in_part r q i in out p.south p.north p.west p.east b
    where
      out : row ≤ r → r < row + tile_side c / 2 → col ≤ q → q < col + tile_side c / 2
          → (IsBeside row (tile_side c / 2) r) ⊎ (IsBeside col (tile_side c / 2) q) → ⊥
      out s n w e (inl (inl x)) = omega arith
      out s n w e (inl (inr x)) = omega arith
      out s n w e (inr (inl x)) = omega arith
      out s n w e (inr (inr x)) = omega arith

  -- what the part of the finer tile has of rows
  pub inside_child : (r i : ℕ) → r < tile_side c / 2 → i < 2 → 2 * r + i < tile_side c
  inside_child r i lt below = let e = even in omega arith

-- an element of the finer tile and its coarser one have one corner, and the four there are the finer cells
pub is_refined : (c t : Tile) (row col : ℕ) → IsParent c t → element_corner t row col ≡ element_corner c 0 0
    → row + tile_side c / 2 ≤ tile_side t → IsRefined c t row col
is_refined c t row col parent begins fits = record {
  corner = λ r q below right. child_even c t row col parent begins r q;
  cells = λ r q i j below right up east. child_corner_at c t row col parent begins r q i j (omega arith);
}
