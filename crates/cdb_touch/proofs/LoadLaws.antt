-- Counts of the tiles that a source reaches: their sums and their bounds.
use Rattle.std.proofs.Common.{◌≡◌, ℕ, suc, ◌+◌, ◌-◌, ◌*◌, ◌/◌, ◌^◌, ◌<◌, ◌≤◌, ◌↔◌, ◌⊎◌, inl, inr, refl, sym, ◌∙◌, ap, subst, arith, rules, lit≤}
use Rattle.std.proofs.lemmas.Bool.{cases_lt}
use Rattle.std.proofs.lemmas.Nat.{mul-le}
use Rattle.std.proofs.Math.Pow.{pow_mono}
use Rattle.std.proofs.Math.Nat.{mul-le-mul_right, pow-succ'}
use Rattle.cdb_grid.specs.Units.{tiles_of, row_of}
use Rattle.cdb_grid.specs.Tiles.{tile_height}
use Rattle.cdb_grid.specs.declared.family.Family.{Family}
use Rattle.cdb_grid.specs.declared.family.Family.TheVariants.{Elev, Low, High, Mat}
use Rattle.cdb_grid.specs.declared.tile.Tile.{Tile}
use Rattle.cdb_grid.proofs.TileLaws.{tile_height-most}
use Rattle.cdb_grid.proofs.UnitLaws.{tiles_most}
use Rattle.cdb_source.specs.declared.kind.Kind.TheVariants.{Elevation, Material}
use Rattle.cdb_source.specs.declared.head.SourceHead.{SourceHead}
use Rattle.cdb_source.specs.Reached.{kind_of, source_height, Reaches}
use Rattle.cdb_touch.specs.inside.Count.{HasCount}
use Rattle.cdb_touch.specs.inside.Reach.{IsOfFamily, IsOfHeight, IsOfRow}
use Rattle.cdb_touch.proofs.Below.{IsBelowHeight, IsBelowRow}
use Rattle.cdb_touch.proofs.CountLaws.{HasCount-none, HasCount-iff, HasCount-union, HasCount-same}

-- row by row
pub row_none : (head : SourceHead) (f : Family) (h first : ℕ)
    → ((t : Tile) → Reaches head t → tile_height t ≡ h → first ≤ row_of t.cell.lat)
    → (t : Tile) → IsBelowRow head f h first t → ⊥
row_none head f h first each t m = let a : first ≤ row_of t.cell.lat = each t m.reaches m.height_is in
    let b = m.row_below in omega arith

pub no_row : (head : SourceHead) (f : Family) (h first : ℕ)
    → ((t : Tile) → Reaches head t → tile_height t ≡ h → first ≤ row_of t.cell.lat)
    → HasCount (IsBelowRow head f h first) 0
no_row head f h first each = HasCount-none (row_none head f h first each)

pub one_row_split : (head : SourceHead) (f : Family) (h row : ℕ) (t : Tile)
    → (IsBelowRow head f h row t ⊎ IsOfRow head f h row t) ↔ IsBelowRow head f h (row + 1) t
one_row_split head f h row t = (put, split)
  where
    put : IsBelowRow head f h row t ⊎ IsOfRow head f h row t → IsBelowRow head f h (row + 1) t
    put (inl i) = let x = i.row_below in
        record { reaches = i.reaches; family_is = i.family_is; height_is = i.height_is; row_below = omega arith }
    put (inr i) = let x = i.row_is in
        record { reaches = i.reaches; family_is = i.family_is; height_is = i.height_is; row_below = omega arith }

    split : IsBelowRow head f h (row + 1) t → IsBelowRow head f h row t ⊎ IsOfRow head f h row t
    split i = let x = i.row_below in elim (cases_lt (row_of t.cell.lat) row) [
      | inl p ↦ inl (record { reaches = i.reaches; family_is = i.family_is; height_is = i.height_is; row_below = p })
      | inr p ↦
          inr (record { reaches = i.reaches; family_is = i.family_is; height_is = i.height_is; row_is = omega arith })
    ]

pub one_row_more : (head : SourceHead) (f : Family) (h row m n : ℕ) → HasCount (IsBelowRow head f h row) m
    → HasCount (IsOfRow head f h row) n
    → HasCount (IsBelowRow head f h (row + 1)) (m + n)
one_row_more head f h row m n a b =
    HasCount-union m n a b (λ t p q. let x = p.row_below in let y = q.row_is in omega arith)
    (one_row_split head f h row)

pub all_rows_same : (head : SourceHead) (f : Family) (h end : ℕ)
    → ((t : Tile) → Reaches head t → tile_height t ≡ h → row_of t.cell.lat < end)
    → (t : Tile) → IsBelowRow head f h end t ↔ IsOfHeight head f h t
all_rows_same head f h end each t = (
  (λ i. record { reaches = i.reaches; family_is = i.family_is; height_is = i.height_is }),
  (λ i. record {
    reaches = i.reaches;
    family_is = i.family_is;
    height_is = i.height_is;
    row_below = each t i.reaches i.height_is;
  }),
)

pub all_rows_counted : (head : SourceHead) (f : Family) (h end n : ℕ)
    → ((t : Tile) → Reaches head t → tile_height t ≡ h → row_of t.cell.lat < end)
    → HasCount (IsBelowRow head f h end) n → HasCount (IsOfHeight head f h) n
all_rows_counted head f h end n each a = HasCount-iff n (all_rows_same head f h end each) a

-- height by height
pub height_none : (head : SourceHead) (f : Family) (t : Tile) → IsBelowHeight head f (source_height head) t → ⊥
height_none head f t m = let a = m.reaches.level in let b = m.height_below in omega arith

pub no_height : (head : SourceHead) (f : Family) → HasCount (IsBelowHeight head f (source_height head)) 0
no_height head f = HasCount-none (height_none head f)

pub one_height_split : (head : SourceHead) (f : Family) (h : ℕ) (t : Tile)
    → (IsBelowHeight head f h t ⊎ IsOfHeight head f h t) ↔ IsBelowHeight head f (h + 1) t
one_height_split head f h t = (put, split)
  where
    put : IsBelowHeight head f h t ⊎ IsOfHeight head f h t → IsBelowHeight head f (h + 1) t
    put (inl i) = let x = i.height_below in
        record { reaches = i.reaches; family_is = i.family_is; height_below = omega arith }
    put (inr i) = let x = i.height_is in
        record { reaches = i.reaches; family_is = i.family_is; height_below = omega arith }

    split : IsBelowHeight head f (h + 1) t → IsBelowHeight head f h t ⊎ IsOfHeight head f h t
    split i = let x = i.height_below in elim (cases_lt (tile_height t) h) [
      | inl p ↦ inl (record { reaches = i.reaches; family_is = i.family_is; height_below = p })
      | inr p ↦ inr (record { reaches = i.reaches; family_is = i.family_is; height_is = omega arith })
    ]

pub one_height_more : (head : SourceHead) (f : Family) (h m n : ℕ) → HasCount (IsBelowHeight head f h) m
    → HasCount (IsOfHeight head f h) n
    → HasCount (IsBelowHeight head f (h + 1)) (m + n)
one_height_more head f h m n a b =
    HasCount-union m n a b (λ t p q. let x = p.height_below in let y = q.height_is in omega arith)
    (one_height_split head f h)

pub all_heights_same : (head : SourceHead) (f : Family) (h : ℕ) → 35 ≤ h → (t : Tile) → IsBelowHeight head f h t
    ↔ IsOfFamily head f t
all_heights_same head f h past t = (
  (λ i. record { reaches = i.reaches; family_is = i.family_is }),
  (λ i. let m : tile_height t ≤ 34 = tile_height-most t in
      record { reaches = i.reaches; family_is = i.family_is; height_below = omega arith }),
)

pub all_heights_counted : (head : SourceHead) (f : Family) (n : ℕ) → HasCount (IsBelowHeight head f 35) n
    → HasCount (IsOfFamily head f) n
all_heights_counted head f n a = HasCount-iff n (all_heights_same head f 35 (lit≤ tt)) a

-- family by family
pub three_families_split : (head : SourceHead) (t : Tile) → head.kind ≡ Elevation
    → ((IsOfFamily head Elev t ⊎ IsOfFamily head Low t) ⊎ IsOfFamily head High t) ↔ Reaches head t
three_families_split head t e = (put, λ r. split t.family refl r)
  where
    put : (IsOfFamily head Elev t ⊎ IsOfFamily head Low t) ⊎ IsOfFamily head High t → Reaches head t
    put (inl (inl i)) = i.reaches
    put (inl (inr i)) = i.reaches
    put (inr i) = i.reaches

    split : (f : Family) → t.family ≡ f → Reaches head t → (IsOfFamily head Elev t ⊎ IsOfFamily head Low t)
        ⊎ IsOfFamily head High t
    split Elev q r = inl (inl (record { reaches = r; family_is = q }))
    split Low q r = inl (inr (record { reaches = r; family_is = q }))
    split High q r = inr (record { reaches = r; family_is = q })
    split Mat q r = let k : head.kind ≡ Material = r.kind ∙ ap kind_of q in absurd (cc)

pub three_families : (head : SourceHead) (n : ℕ) → head.kind ≡ Elevation
    → ((f : Family) → head.kind ≡ kind_of f → HasCount (IsOfFamily head f) n) → HasCount (Reaches head) (3 * n)
three_families head n e each =
    let two : HasCount (λ t. IsOfFamily head Elev t ⊎ IsOfFamily head Low t) (n + n) =
    HasCount-union n n (each Elev e) (each Low e) (λ t p q. apart t p.family_is q.family_is) (λ t. (λ i. i, λ i. i)) in
    HasCount-same (n + n + n) (3 * n) (omega arith)
    (HasCount-union (n + n) n two (each High e) (λ t p q. past t p q.family_is) (λ t. three_families_split head t e))
  where
    apart : (t : Tile) → t.family ≡ Elev → t.family ≡ Low → ⊥
    apart t p q = cc

    past : (t : Tile) → IsOfFamily head Elev t ⊎ IsOfFamily head Low t → t.family ≡ High → ⊥
    past t (inl i) q = let p = i.family_is in cc
    past t (inr i) q = let p = i.family_is in cc

pub one_family_split : (head : SourceHead) (t : Tile) → head.kind ≡ Material → IsOfFamily head Mat t ↔ Reaches head t
one_family_split head t e = (λ i. i.reaches, λ r. record { reaches = r; family_is = which t.family refl r })
  where
    which : (f : Family) → t.family ≡ f → Reaches head t → f ≡ Mat
    which Elev q r = let k : head.kind ≡ Elevation = r.kind ∙ ap kind_of q in absurd (cc)
    which Low q r = let k : head.kind ≡ Elevation = r.kind ∙ ap kind_of q in absurd (cc)
    which High q r = let k : head.kind ≡ Elevation = r.kind ∙ ap kind_of q in absurd (cc)
    which Mat q r = refl

pub one_family : (head : SourceHead) (n : ℕ) → head.kind ≡ Material
    → ((f : Family) → head.kind ≡ kind_of f → HasCount (IsOfFamily head f) n) → HasCount (Reaches head) n
one_family head n e each = HasCount-iff n (λ t. one_family_split head t e) (each Mat e)

-- bounds
pub square_most : (h : ℕ) → 1 ≤ h → tiles_of h * tiles_of h ≤ 70368744177664
square_most h p = let m : tiles_of h ≤ 8388608 = tiles_most h p in mul-le (tiles_of h) (tiles_of h) 8388608 8388608 m m

pub rectangle_most : (n w a b : ℕ) → a ≤ n → b ≤ 360 / w * n → a * b ≤ 360 * (n * n)
rectangle_most n w a b x y =
    let d : 360 / w ≤ 360 = quotient_le w in
    let m : 360 / w * n ≤ 360 * n = mul-le-mul_right n d in
    let q : a * b ≤ n * (360 * n) = mul-le a b n (360 * n) x (omega arith) in
    omega arith
  where
    quotient_le : (w : ℕ) → 360 / w ≤ 360
    quotient_le w = search rules

square_coarser : (h : ℕ) → 1 ≤ h → h ≤ 24 → tiles_of (h - 1) * tiles_of (h - 1) ≡ 4 * (tiles_of h * tiles_of h)
square_coarser h p q =
    let e : 24 - (h - 1) ≡ suc (24 - h) = omega arith in
    let d : tiles_of (h - 1) ≡ 2 * tiles_of h = ap (λ n. 2 ^ n) e ∙ pow-succ' 2 (24 - h) in
    squared (tiles_of (h - 1)) (tiles_of h) d
  where
    squared : (a b : ℕ) → a ≡ 2 * b → a * a ≡ 4 * (b * b)
    squared a b e = ap (λ n. n * a) e ∙ ap (λ n. 2 * b * n) e ∙ again b
      where
        again : (b : ℕ) → 2 * b * (2 * b) ≡ 4 * (b * b)
        again b = omega arith

fine_more : (h m n s t : ℕ) → s ≡ 4 * t → n ≤ 64800 * t → h ≤ 24
    → 3 * m + 64800 * s ≤ 18239578490850508800 + 194400 * (h - 25)
    → 3 * (m + n) + 64800 * t ≤ 18239578490850508800 + 194400 * (h + 1 - 25)
fine_more h m n s t e le q x = omega arith

coarse_more : (h m n s t : ℕ) → t ≡ 1 → s ≡ 1 → n ≤ 64800 * t → 25 ≤ h
    → 3 * m + 64800 * s ≤ 18239578490850508800 + 194400 * (h - 25)
    → 3 * (m + n) + 64800 * t ≤ 18239578490850508800 + 194400 * (h + 1 - 25)
coarse_more h m n s t a b le q x = omega arith

-- the tiles of all heights below one, three families of them: each finer level has four times as many as the next
abbrev pub IsSmall : ℕ → ℕ → Type 0
IsSmall h n = 3 * n + 64800 * (tiles_of (h - 1) * tiles_of (h - 1)) ≤ 18239578490850508800 + 194400 * (h - 25)

pub small_none : (h : ℕ) → 1 ≤ h → IsSmall h 0
small_none h p =
    let m : tiles_of (h - 1) ≤ 16777216 = pow_mono {j = 24} (let le : 24 - (h - 1) ≤ 24 = omega arith in le) in
    let q : tiles_of (h - 1) * tiles_of (h - 1) ≤ 16777216 * 16777216 =
    mul-le (tiles_of (h - 1)) (tiles_of (h - 1)) 16777216 16777216 m m in
    below (tiles_of (h - 1) * tiles_of (h - 1)) q
  where
    below : (t : ℕ) → t ≤ 16777216 * 16777216 → 3 * 0 + 64800 * t ≤ 18239578490850508800 + 194400 * (h - 25)
    below t le = omega arith

pub small_more : (h m n : ℕ) → 1 ≤ h → n ≤ 64800 * (tiles_of h * tiles_of h) → IsSmall h m → IsSmall (h + 1) (m + n)
small_more h m n p le small =
    let e : h + 1 - 1 ≡ h = omega arith in
    subst (λ k. 3 * (m + n) + 64800 * (tiles_of k * tiles_of k) ≤ 18239578490850508800 + 194400 * (h + 1 - 25)) (sym e)
    (elim (cases_lt h 25) [
      | inl q ↦ let s : tiles_of (h - 1) * tiles_of (h - 1) ≡ 4 * (tiles_of h * tiles_of h) =
          square_coarser h p (omega arith) in
          fine_more h m n (tiles_of (h - 1) * tiles_of (h - 1)) (tiles_of h * tiles_of h) s le (omega arith) small
      | inr q ↦
          let a : 24 - h ≡ 0 = omega arith in let b : 24 - (h - 1) ≡ 0 = omega arith in
          let c : tiles_of h * tiles_of h ≡ 1 = ap (λ k. 2 ^ k * 2 ^ k) a in
          let d : tiles_of (h - 1) * tiles_of (h - 1) ≡ 1 = ap (λ k. 2 ^ k * 2 ^ k) b in
          coarse_more h m n (tiles_of (h - 1) * tiles_of (h - 1)) (tiles_of h * tiles_of h) c d le q small
    ])

pub small_end : (n : ℕ) → IsSmall 35 n → 3 * n < 18446744073709551616
small_end n small = below (tiles_of 34 * tiles_of 34) small
  where
    below : (t : ℕ) → 3 * n + 64800 * t ≤ 18239578490850508800 + 194400 * (35 - 25) → 3 * n < 18446744073709551616
    below t le = omega arith

-- a row of geocells at a time
pub rows_more : (row m n t : ℕ) → n ≤ 360 * t → m ≤ row * (360 * t) → m + n ≤ (row + 1) * (360 * t)
rows_more row m n t a b = omega arith

pub rows_most : (row m t : ℕ) → row ≤ 180 → m ≤ row * (360 * t) → m ≤ 64800 * t
rows_most row m t a b = let q : row * (360 * t) ≤ 180 * (360 * t) = mul-le-mul_right (360 * t) a in omega arith

pub small_fits : (h n : ℕ) → h ≤ 35 → IsSmall h n → n < 18446744073709551616
small_fits h n le small = below (tiles_of (h - 1) * tiles_of (h - 1)) small
  where
    below : (t : ℕ) → 3 * n + 64800 * t ≤ 18239578490850508800 + 194400 * (h - 25) → n < 18446744073709551616
    below t x = omega arith
