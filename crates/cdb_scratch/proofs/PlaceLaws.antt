-- Cells that a source reaches: the multiples of its step along both axes.
use Rattle.std.proofs.Common.{◌≡◌, ℕ, zero, suc, ◌+◌, ◌-◌, ◌*◌, ◌/◌, ◌<◌, ◌≤◌, ◌↔◌, min, max, true, nat_lt, sym, ap, ◌∙◌, subst, arith}
use Prim.Native.Nat.{◌∣◌}
use Rattle.std.proofs.lemmas.Bool.Decides.{nat_tests}
use Rattle.cdb_grid.specs.Units.{degree, step, width_at}
use Rattle.cdb_grid.specs.Grid.{Place, width_of, step_east, IsCorner, beside, centre}
use Rattle.cdb_grid.proofs.GridLaws.{same_place, child_corner, cell_width, cell_within}
use Rattle.cdb_source.specs.declared.kind.Kind.{Kind}
use Rattle.cdb_source.specs.declared.kind.Kind.TheVariants.{Elevation, Material}
use Rattle.cdb_source.specs.declared.head.SourceHead.{SourceHead}
use Rattle.cdb_source.specs.Sample.{IsBefore, IsInBox, corner_of, box_height, box_width}
use Rattle.cdb_source.specs.Reached.{source_height}
use Rattle.cdb_touch.proofs.AxisLaws.{IsFirst, first_least}
use Rattle.cdb_scratch.specs.inside.Cells.{HasMultiple, HasPlaceOnGrid, past_edge, place_of, inset_at, ReachesCell}

pub multiple_from_first : (step low high first : ℕ) → IsFirst step low first → first < high → HasMultiple step low high
multiple_from_first step low high first f lt = record { at = first; multiple = f.multiple; from = f.above; below = lt }

pub multiple_below : (step low high first : ℕ) → IsFirst step low first → HasMultiple step low high → first < high
multiple_below step low high first f m = let le : first ≤ m.at = first_least step low first m.at f m.multiple m.from in
    let b = m.below in omega arith

pub test_of : (a b : ℕ) → a < b → nat_lt a b ≡ true
test_of a b lt = grind (arith, nat_tests)

pub of_test : (a b : ℕ) → nat_lt a b ≡ true → a < b
of_test a b t = grind (arith, nat_tests)

-- not past the far edge is below the number past it
before_edge : (kind : Kind) (x far : ℕ) → IsBefore kind x far → x < past_edge kind far
before_edge Elevation x far b = omega arith
before_edge Material x far b = b

edge_before : (kind : Kind) (x far : ℕ) → x < past_edge kind far → IsBefore kind x far
edge_before Elevation x far b = omega arith
edge_before Material x far b = b

place_from_multiple : (kind : Kind) (step inset near far low high : ℕ)
    → HasMultiple step (max (near - inset) low) (min (past_edge kind far - inset) high)
    → HasPlaceOnGrid kind step inset near far low high
place_from_multiple kind step inset near far low high m =
    let a = m.from in let b = m.below in
    let lt : m.at + inset < past_edge kind far = omega arith in
    record {
      at = m.at;
      multiple = m.multiple;
      from = omega arith;
      below = omega arith;
      after_near = omega arith;
      before_far = edge_before kind (m.at + inset) far lt;
    }

multiple_from_place : (kind : Kind) (step inset near far low high : ℕ)
    → HasPlaceOnGrid kind step inset near far low high
    → HasMultiple step (max (near - inset) low) (min (past_edge kind far - inset) high)
multiple_from_place kind step inset near far low high p =
    let a = p.from in let b = p.below in let e = p.after_near in
    let lt : p.at + inset < past_edge kind far = before_edge kind (p.at + inset) far p.before_far in
    record { at = p.at; multiple = p.multiple; from = omega arith; below = omega arith }

pub place_by_multiple : (kind : Kind) (step inset near far low high s m p t n : ℕ) (B : Type 0) → s ≡ near - inset
    → m ≡ max s low → p ≡ past_edge kind far → t ≡ p - inset → n ≡ min t high
    → (B ↔ HasMultiple step m n) → (B ↔ HasPlaceOnGrid kind step inset near far low high)
place_by_multiple kind step inset near far low high s m p t n B es em ep et en i =
    let lower : m ≡ max (near - inset) low = em ∙ ap (λ k. max k low) es in
    let upper : n ≡ min (past_edge kind far - inset) high = en ∙ ap (λ k. min k high) (et ∙ ap (λ k. k - inset) ep) in
    let j : B ↔ HasMultiple step (max (near - inset) low) (min (past_edge kind far - inset) high) =
    subst (λ k. B ↔ HasMultiple step (max (near - inset) low) k) upper
    (subst (λ k. B ↔ HasMultiple step k n) lower i) in (
      (λ b. place_from_multiple kind step inset near far low high (j.0 b)),
      (λ h. j.1 (multiple_from_place kind step inset near far low high h)),
    )

place_north : (kind : Kind) (h : ℕ) (c : Place) → (place_of kind h c).north ≡ c.north + inset_at kind h
place_north Elevation h c = omega arith
place_north Material h c = omega arith

place_east : (kind : Kind) (h : ℕ) (c : Place) → (place_of kind h c).east ≡ c.east + width_of c * inset_at kind h
place_east Elevation h c = omega arith
place_east Material h c = one_time c.east (width_of c * step (h - 1))
  where
    one_time : (a b : ℕ) → a + 1 * b ≡ a + b
    one_time a b = omega arith

-- a row and a column of places of a source in a cell
abbrev pub Row : ℕ → Place → SourceHead → Type 0
Row h c head = HasPlaceOnGrid head.kind (step (source_height head)) (inset_at head.kind (source_height head))
    (corner_of head).north ((corner_of head).north + box_height head) c.north (c.north + step h)

abbrev pub Column : ℕ → Place → SourceHead → ℕ → Type 0
Column h c head w = HasPlaceOnGrid head.kind (w * step (source_height head))
    (w * inset_at head.kind (source_height head)) (corner_of head).east ((corner_of head).east + box_width head)
    c.east (c.east + w * step h)

pub row_in_cell : (kind : Kind) (h : ℕ) (c : Place) (head : SourceHead) → ReachesCell kind h c head → Row h c head
row_in_cell kind h c head r =
    let k : ℕ = source_height head in
    let box : IsInBox head (place_of head.kind k r.corner) = subst (λ j. IsInBox head (place_of j k r.corner))
    (sym r.kind_is) r.in_box in
    let e : (place_of head.kind k r.corner).north ≡ r.corner.north + inset_at head.kind k =
    place_north head.kind k r.corner in
    record {
      at = r.corner.north;
      multiple = r.on_grid.on_row;
      from = r.in_cell.south;
      below = r.in_cell.north;
      after_near = subst (λ m. (corner_of head).north ≤ m) e box.south;
      before_far = subst (λ m. IsBefore head.kind m ((corner_of head).north + box_height head)) e box.north;
    }

pub column_in_cell : (kind : Kind) (h : ℕ) (c : Place) (head : SourceHead) (w : ℕ) → h ≤ 34 → IsCorner h c
    → w ≡ width_of c → ReachesCell kind h c head → Column h c head w
column_in_cell kind h c head w le corner same r =
    let k : ℕ = source_height head in
    let there : width_of r.corner ≡ w = cell_width h c r.corner le corner r.in_cell.south r.in_cell.north ∙ sym same in
    let box : IsInBox head (place_of head.kind k r.corner) = subst (λ j. IsInBox head (place_of j k r.corner))
    (sym r.kind_is) r.in_box in
    let e : (place_of head.kind k r.corner).east ≡ r.corner.east + w * inset_at head.kind k =
    place_east head.kind k r.corner ∙ ap (λ m. r.corner.east + m * inset_at head.kind k) there in
    record {
      at = r.corner.east;
      multiple = subst (λ m. m * step k ∣ r.corner.east) there r.on_grid.on_column;
      from = r.in_cell.west;
      below = subst (λ m. r.corner.east < c.east + m * step h) (sym same) r.in_cell.east;
      after_near = subst (λ m. (corner_of head).east ≤ m) e box.west;
      before_far = subst (λ m. IsBefore head.kind m ((corner_of head).east + box_width head)) e box.east;
    }

pub cell_from_axes : (kind : Kind) (h : ℕ) (c : Place) (head : SourceHead) (w : ℕ) → h ≤ 34 → IsCorner h c
    → w ≡ width_of c
    → head.kind ≡ kind → source_height head ≤ h → Row h c head → Column h c head w → ReachesCell kind h c head
cell_from_axes kind h c head w le corner same kinds fine row column =
    let k : ℕ = source_height head in
    let p : Place = record { north = row.at; east = column.at } in
    let there : w ≡ width_of p = same ∙ sym (cell_width h c p le corner row.from row.below) in
    let ends : (c.north + step h ≤ 180 * degree) × (c.east + step_east h c ≤ 360 * degree) =
    cell_within h c le corner in
    let below_east : column.at < c.east + step_east h c =
    subst (λ m. column.at < c.east + m * step h) same column.below in
    let n : (place_of head.kind k p).north ≡ row.at + inset_at head.kind k = place_north head.kind k p in
    let e : (place_of head.kind k p).east ≡ column.at + w * inset_at head.kind k =
    place_east head.kind k p ∙ ap (λ m. column.at + m * inset_at head.kind k) (sym there) in
    let box : IsInBox head (place_of head.kind k p) = record {
      south = subst (λ m. (corner_of head).north ≤ m) (sym n) row.after_near;
      north = subst (λ m. IsBefore head.kind m ((corner_of head).north + box_height head)) (sym n) row.before_far;
      west = subst (λ m. (corner_of head).east ≤ m) (sym e) column.after_near;
      east = subst (λ m. IsBefore head.kind m ((corner_of head).east + box_width head)) (sym e) column.before_far;
    } in
    record {
      kind_is = kinds;
      level = fine;
      corner = p;
      on_grid = record {
        on_row = row.multiple;
        on_column = subst (λ m. m * step k ∣ column.at) there column.multiple;
        north_within = let a = row.below in let b = ends.0 in omega arith;
        east_within = let b = ends.1 in omega arith;
      };
      in_cell = record { south = row.from; north = row.below; west = column.from; east = below_east };
      in_box = subst (λ j. IsInBox head (place_of j k p)) kinds box;
    }

pub width_at_corner : (n e w : ℕ) → w ≡ width_at (n / degree) → w ≡ width_of (record { north = n; east = e })
unfolding width_of
width_at_corner n e w same = same

-- the centre of a cell, which is a corner of the next finer height
pub centre_at : (h n e s w : ℕ) → s ≡ step (h - 1) → w ≡ width_at (n / degree)
    → record { north = n + s; east = e + w * s } ≡ centre h (record { north = n; east = e })
unfolding width_of
centre_at h n e s w p q = same_place (record { north = n + s; east = e + w * s })
    (centre h (record { north = n; east = e }))
    (ap (λ m. n + m) p ∙ one_time n (step (h - 1)))
    (ap (λ m. e + w * m) p ∙ ap (λ m. e + m * step (h - 1)) q ∙ one_time e (width_at (n / degree) * step (h - 1)))
  where
    one_time : (a b : ℕ) → a + b ≡ a + 1 * b
    one_time a b = omega arith

pub centre_corner : (h : ℕ) (c : Place) → 1 ≤ h → h ≤ 34 → IsCorner h c → IsCorner (h - 1) (centre h c)
centre_corner (suc k) c p le corner = let e : suc k - 1 ≡ k = omega arith in
    subst (λ n. IsCorner n (beside n c 1 1)) (sym e) (child_corner k 1 1 c le (omega arith) (omega arith) corner)
centre_corner zero c p le corner = absurd (omega (arith, p))

pub same_within : (p q : Place) (h : ℕ) → p ≡ q → IsCorner h q → (p.north < 180 * degree) × (p.east < 360 * degree)
same_within p q h e corner = (
  subst (λ (x : Place). x.north < 180 * degree) (sym e) corner.north_within,
  subst (λ (x : Place). x.east < 360 * degree) (sym e) corner.east_within,
)
