-- The children of a tile have its places, each in one of them.
use Rattle.std.proofs.Common.{◌≡◌, ℕ, suc, ◌+◌, ◌*◌, ◌/◌, ◌%◌, ◌<◌, ◌≤◌, ◌⊎◌, inl, inr, pos, ◌+ℤ◌, ◌≤ℤ◌, ◌<ℤ◌, List, [], ◌∷◌, ◌++◌, refl, sym, ◌∙◌, ap, subst, arith, lit<}
use Rattle.std.specs.Prelude.{Any, AllPairs}
use Rattle.std.proofs.lemmas.Bool.{cases_lt}
use Rattle.std.proofs.lemmas.List.Elements.{All-cons, All-nil}
use Rattle.std.proofs.lemmas.List.Kept.{AllPairs-cons}
use Rattle.cdb_grid.specs.Units.{degree, height_of, step, tiles_of, side_of, width_at, row_of, column_of}
use Rattle.cdb_grid.specs.Grid.{Place}
use Rattle.cdb_grid.specs.Tiles.{tile_height, tile_side, tile_step_east, element_corner, IsInTile}
use Rattle.cdb_grid.specs.Children.{IsParent, IsChildAt, HasFourChildren, AreApart}
use Rattle.cdb_grid.specs.declared.tile.Tile.{Tile}
use Rattle.cdb_grid.proofs.UnitLaws.{height-finer}
use Rattle.cdb_grid.proofs.TileLaws.{one_tile, tile_height-most}
use Rattle.cdb_grid.proofs.PyramidLaws.{Axis, axis_same, extent, extent-fine, extent-coarse, side-fine, tiles-coarse, height-from, height-below, is_parent}
use Rattle.cdb_grid.proofs.SpotLaws.{spot-begins}

-- a child by its numbers, in one half of a tile to the north and one to the east
pub record IsQuarter (t : Tile) (i j : ℕ) (c : Tile) : Type 0 where
  pub family : c.family ≡ t.family
  pub cell : c.cell ≡ t.cell
  pub level : t.level.number +ℤ pos 1 ≡ c.level.number
  pub up : c.up ≡ 2 * t.up + i
  pub right : c.right ≡ 2 * t.right + j

-- the only child of a tile by its numbers
pub record IsWhole (t c : Tile) : Type 0 where
  pub family : c.family ≡ t.family
  pub cell : c.cell ≡ t.cell
  pub level : t.level.number +ℤ pos 1 ≡ c.level.number
  pub up : c.up ≡ t.up
  pub right : c.right ≡ t.right

above_of : (t c : Tile) → t.level.number +ℤ pos 1 ≡ c.level.number → tile_height t ≡ suc (tile_height c)
above_of t c e = height-finer t.level.number c.level.number c.level.finest e

-- one child in a quarter begins there
pub quarter-begins : (t : Tile) (i j : ℕ) (c : Tile) → pos 0 ≤ℤ t.level.number → i < 2 → j < 2 → IsQuarter t i j c
    → IsChildAt i j t c
quarter-begins t i j c from il jl k =
    let eu = k.up in let er = k.right in
    let parent : IsParent c t = is_parent c t (sym k.family) (sym k.cell) k.level (omega arith) (omega arith) in
    let above : tile_height t ≡ suc (tile_height c) = above_of t c k.level in
    let top : tile_height t ≤ 24 = height-from t.level.number from in
    let sides : tile_side c ≡ tile_side t = side-fine (tile_height c) (omega arith)
    ∙ sym (side-fine (tile_height t) top) in
    let u : c.up % 2 ≡ i = omega arith in
    let r : c.right % 2 ≡ j = omega arith in
    let corner : ℕ → ℕ → ℕ → Place = λ a b s. element_corner t (a * (s / 2)) (b * (s / 2)) in
    record {
      parent_of = parent;
      begins = sym (spot-begins c t parent) ∙ ap (corner (c.up % 2) (c.right % 2)) sides
          ∙ ap (λ x. corner x (c.right % 2) (tile_side t)) u ∙ ap (λ x. corner i x (tile_side t)) r;
    }

-- the only child begins where its parent does
pub whole-begins : (t c : Tile) → t.level.number <ℤ pos 0 → IsWhole t c → IsChildAt 0 0 t c
whole-begins t c below k =
    let high : 25 ≤ tile_height t = height-below t.level.number below in
    let alone : tiles_of (tile_height t) ≡ 1 = tiles-coarse (tile_height t) (omega arith) in
    let eu = k.up in let er = k.right in
    let tu = t.up_in_range in let tr = t.right_in_range in
    let u : c.up ≡ 0 = omega arith in
    let r : c.right ≡ 0 = omega arith in
    let parent : IsParent c t = is_parent c t (sym k.family) (sym k.cell) k.level (omega arith) (omega arith) in
    let corner : ℕ → ℕ → Place = λ a b. element_corner t (a % 2 * (tile_side c / 2)) (b % 2 * (tile_side c / 2)) in
    let start : ℕ → Place = λ a. element_corner t a a in
    record {
      parent_of = parent;
      begins = sym (spot-begins c t parent) ∙ ap (λ x. corner x c.right) u ∙ ap (corner 0) r
          ∙ ap start (let z : 0 * (tile_side c / 2) ≡ 0 * (tile_side t / 2) = omega arith in z);
    }

-- a place of one axis is in one half of a tile
halves : (b u S T side s n : ℕ) → S * T ≡ 2 * (side * s) → Axis b u S T n → (Axis b (2 * u + 0) side s n)
    ⊎ (Axis b (2 * u + 1) side s n)
halves b u S T side s n e a =
    let low = a.0 in let high = a.1 in
    let m : u * (S * T) ≡ u * (2 * (side * s)) = ap (λ x. u * x) e in
    elim (cases_lt n (b + (2 * u + 1) * (side * s))) [
      | inl p ↦ inl (omega arith, omega arith)
      | inr p ↦ inr (omega arith, omega arith)
    ]

-- or in all of it
all_of : (b u v S T side s n : ℕ) → v ≡ u → S * T ≡ side * s → Axis b u S T n → Axis b v side s n
all_of b u v S T side s n f e a =
    let low = a.0 in let high = a.1 in
    let m : u * (S * T) ≡ u * (side * s) = ap (λ x. u * x) e in
    let k : v * (side * s) ≡ u * (side * s) = ap (λ x. x * (side * s)) f in
    (omega arith, omega arith)

wide-fine : (w S T side s : ℕ) → S * T ≡ 2 * (side * s) → S * (w * T) ≡ 2 * (side * (w * s))
wide-fine w S T side s e = let m : w * (S * T) ≡ w * (2 * (side * s)) = ap (λ x. w * x) e in omega arith

wide-coarse : (w S T side s : ℕ) → S * T ≡ side * s → S * (w * T) ≡ side * (w * s)
wide-coarse w S T side s e = let m : w * (S * T) ≡ w * (side * s) = ap (λ x. w * x) e in omega arith

-- the axes of a tile of a geocell
in_cell : (t c : Tile) (u r : ℕ) (p : Place) → c.cell ≡ t.cell → c.up ≡ u → c.right ≡ r
    → Axis (row_of t.cell.lat * degree) u (tile_side c) (step (tile_height c)) p.north
    → Axis (column_of t.cell.lon * degree) r (tile_side c) (width_at (row_of t.cell.lat) * step (tile_height c)) p.east
    → IsInTile c p
in_cell t c u r p ec eu er a b =
    let n = axis_same (row_of c.cell.lat * degree) _ c.up u (tile_side c) (step (tile_height c)) p.north
    (ap (λ x. row_of x.lat * degree) ec) eu a in
    let w : width_at (row_of t.cell.lat) ≡ width_at (row_of c.cell.lat) = sym (ap (λ x. width_at (row_of x.lat)) ec) in
    let b' = subst (λ x. Axis (column_of t.cell.lon * degree) r (tile_side c) (x * step (tile_height c)) p.east) w b in
    let e = axis_same (column_of c.cell.lon * degree) _ c.right r (tile_side c) (tile_step_east c) p.east
    (ap (λ x. column_of x.lon * degree) ec) er b' in
    record { south = n.0; north = n.1; west = e.0; east = e.1 }

extent-above : (t c : Tile) → t.level.number +ℤ pos 1 ≡ c.level.number → pos 0 ≤ℤ t.level.number
    → extent (tile_height t) ≡ 2 * extent (tile_height c)
extent-above t c e from =
    let above : tile_height t ≡ suc (tile_height c) = above_of t c e in
    let top : tile_height t ≤ 24 = height-from t.level.number from in
    ap extent above ∙ extent-fine (tile_height c) (omega arith)

-- a place of a tile is in its only child
pub whole-fills : (t c : Tile) → t.level.number <ℤ pos 0 → IsWhole t c → (p : Place) → IsInTile t p → IsInTile c p
whole-fills t c below k p i =
    let above : tile_height t ≡ suc (tile_height c) = above_of t c k.level in
    let high : 25 ≤ tile_height t = height-below t.level.number below in
    let most = tile_height-most t in
    let e : extent (tile_height t) ≡ extent (tile_height c) = ap extent above
    ∙ extent-coarse (tile_height c) (omega arith) (omega arith) in
    in_cell t c c.up c.right p k.cell refl refl
    (all_of _ t.up c.up (tile_side t) (step (tile_height t)) (tile_side c) (step (tile_height c)) p.north k.up e
    (i.south, i.north))
    (all_of _ t.right c.right (tile_side t) (tile_step_east t) (tile_side c)
    (width_at (row_of t.cell.lat) * step (tile_height c)) p.east k.right
    (wide-coarse (width_at (row_of t.cell.lat)) (tile_side t) (step (tile_height t)) (tile_side c)
    (step (tile_height c)) e) (i.west, i.east))

-- the four children of a tile
pub record AreQuarters (t sw se nw ne : Tile) : Type 0 where
  pub from : pos 0 ≤ℤ t.level.number
  pub south_west : IsQuarter t 0 0 sw
  pub south_east : IsQuarter t 0 1 se
  pub north_west : IsQuarter t 1 0 nw
  pub north_east : IsQuarter t 1 1 ne

-- the axes at the height of all four children, in each of them
same_height : (t a c : Tile) → t.level.number +ℤ pos 1 ≡ a.level.number → t.level.number +ℤ pos 1 ≡ c.level.number
    → tile_height a ≡ tile_height c
same_height t a c e f = ap height_of (sym e ∙ f)

-- the quarter that holds a place, by the halves
in_quarter : (t a c : Tile) (i j : ℕ) (p : Place) → t.level.number +ℤ pos 1 ≡ a.level.number → IsQuarter t i j c
    → Axis (row_of t.cell.lat * degree) (2 * t.up + i) (tile_side a) (step (tile_height a)) p.north
    → Axis (column_of t.cell.lon * degree) (2 * t.right + j) (tile_side a)
    (width_at (row_of t.cell.lat) * step (tile_height a)) p.east
    → IsInTile c p
in_quarter t a c i j p e k x y =
    let h : tile_height a ≡ tile_height c = same_height t a c e k.level in
    in_cell t c (2 * t.up + i) (2 * t.right + j) p k.cell k.up k.right
    (subst (λ g. Axis (row_of t.cell.lat * degree) (2 * t.up + i) (side_of g) (step g) p.north) h x)
    (subst (λ g. Axis (column_of t.cell.lon * degree) (2 * t.right + j) (side_of g)
    (width_at (row_of t.cell.lat) * step g) p.east) h y)

-- a place of a tile is in one of its quarters
pub quarters-fill : (t sw se nw ne : Tile) → AreQuarters t sw se nw ne → (p : Place) → IsInTile t p
    → Any (λ c. IsInTile c p) (sw ∷ se ∷ nw ∷ ne ∷ [])
quarters-fill t sw se nw ne q p i =
    let e : extent (tile_height t) ≡ 2 * extent (tile_height sw) = extent-above t sw q.south_west.level q.from in
    let l = q.south_west.level in
    let w : ℕ = width_at (row_of t.cell.lat) in
    let n = halves (row_of t.cell.lat * degree) t.up (tile_side t) (step (tile_height t)) (tile_side sw)
    (step (tile_height sw)) p.north e (i.south, i.north) in
    let m = halves (column_of t.cell.lon * degree) t.right (tile_side t) (tile_step_east t) (tile_side sw)
    (w * step (tile_height sw)) p.east
    (wide-fine w (tile_side t) (step (tile_height t)) (tile_side sw) (step (tile_height sw)) e) (i.west, i.east) in
    elim n [
      | inl a ↦ elim m [
        | inl b ↦ (0, sw, lit< tt, refl, in_quarter t sw sw 0 0 p l q.south_west a b)
        | inr b ↦ (1, se, lit< tt, refl, in_quarter t sw se 0 1 p l q.south_east a b)
      ]
      | inr a ↦ elim m [
        | inl b ↦ (2, nw, lit< tt, refl, in_quarter t sw nw 1 0 p l q.north_west a b)
        | inr b ↦ (3, ne, lit< tt, refl, in_quarter t sw ne 1 1 p l q.north_east a b)
      ]
    ]

-- two different quarters have no place in common
quarters_apart : (t a b : Tile) (i j k l : ℕ) → IsQuarter t i j a → IsQuarter t k l b
    → ((i ≡ k) → (j ≡ l) → ⊥) → AreApart a b
quarters_apart t a b i j k l x y differ p m n =
    let e : a ≡ b = one_tile a b p (x.family ∙ sym y.family) (sym x.level ∙ y.level) m n in
    let up : a.up ≡ b.up = ap (λ c. c.up) e in
    let right : a.right ≡ b.right = ap (λ c. c.right) e in
    let xu = x.up in let yu = y.up in let xr = x.right in let yr = y.right in
    differ (omega arith) (omega arith)

-- the pairs of a list of four
pairs_of_four : {X : Type 0} (R : X → X → Type 0) (a b c d : X) → R a b → R a c → R a d → R b c → R b d → R c d
    → AllPairs R (a ∷ b ∷ c ∷ d ∷ [])
pairs_of_four R a b c d ab ac ad bc bd cd =
    AllPairs-cons R a (b ∷ c ∷ d ∷ [])
    (All-cons (R a) b (c ∷ d ∷ []) ab (All-cons (R a) c (d ∷ []) ac (All-cons (R a) d [] ad (All-nil (R a)))))
    (AllPairs-cons R b (c ∷ d ∷ []) (All-cons (R b) c (d ∷ []) bc (All-cons (R b) d [] bd (All-nil (R b))))
    (AllPairs-cons R c (d ∷ []) (All-cons (R c) d [] cd (All-nil (R c)))
    (AllPairs-cons R d [] (All-nil (R d)) (λ i j e lt below. absurd (not_below j below)))))
  where
    not_below : (j : ℕ) → j < 0 → ⊥
    not_below j lt = omega arith

pub quarters-apart : (t sw se nw ne : Tile) → AreQuarters t sw se nw ne → AllPairs AreApart (sw ∷ se ∷ nw ∷ ne ∷ [])
quarters-apart t sw se nw ne q =
    let a = q.south_west in let b = q.south_east in let c = q.north_west in let d = q.north_east in
    pairs_of_four AreApart sw se nw ne
    (quarters_apart t sw se 0 0 0 1 a b (λ e f. omega arith))
    (quarters_apart t sw nw 0 0 1 0 a c (λ e f. omega arith))
    (quarters_apart t sw ne 0 0 1 1 a d (λ e f. omega arith))
    (quarters_apart t se nw 0 1 1 0 b c (λ e f. omega arith))
    (quarters_apart t se ne 0 1 1 1 b d (λ e f. omega arith))
    (quarters_apart t nw ne 1 0 1 1 c d (λ e f. omega arith))

pub quarters-four : (t sw se nw ne : Tile) (items : List Tile) → items ≡ sw ∷ se ∷ nw ∷ ne ∷ []
    → AreQuarters t sw se nw ne → HasFourChildren t items
quarters-four t sw se nw ne items e q = record {
  south_west = sw;
  south_east = se;
  north_west = nw;
  north_east = ne;
  are = e;
  at_south_west = quarter-begins t 0 0 sw q.from (lit< tt) (lit< tt) q.south_west;
  at_south_east = quarter-begins t 0 1 se q.from (lit< tt) (lit< tt) q.south_east;
  at_north_west = quarter-begins t 1 0 nw q.from (lit< tt) (lit< tt) q.north_west;
  at_north_east = quarter-begins t 1 1 ne q.from (lit< tt) (lit< tt) q.north_east;
}

-- four items, one pushed after another
pub pushed_four : {X : Type 0} (xs ws vs us ts : List X) (a b c d : X) → xs ≡ [] → ws ≡ xs ++ a ∷ [] → vs ≡ ws ++ b ∷ []
    → us ≡ vs ++ c ∷ [] → ts ≡ us ++ d ∷ [] → ts ≡ a ∷ b ∷ c ∷ d ∷ []
pushed_four xs ws vs us ts a b c d e f g h k =
    k ∙ ap (λ l. l ++ d ∷ []) h ∙ ap (λ l. l ++ c ∷ [] ++ d ∷ []) g ∙ ap (λ l. l ++ b ∷ [] ++ c ∷ [] ++ d ∷ []) f
    ∙ ap (λ l. l ++ a ∷ [] ++ b ∷ [] ++ c ∷ [] ++ d ∷ []) e
