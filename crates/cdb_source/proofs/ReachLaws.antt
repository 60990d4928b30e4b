-- The values of a tile depend on the sources that reach it, and on no other.
use Rattle.std.proofs.Common.{◌≡◌, ℕ, zero, suc, ◌+◌, ◌-◌, ◌*◌, ◌<◌, ◌≤◌, ℤ, true, cond, ◌&&◌, nat_eq, List, [], ◌∷◌, ◌++◌, map, All, Option, Some, None, refl, sym, ap, ap₂, ◌∙◌, arith, subst, inl, inr, le_refl}
use Rattle.std.specs.Option.{option_map, option_or}
use Rattle.std.proofs.lemmas.Bool.{cases_Bool}
use Rattle.std.proofs.lemmas.Bool.Decides.{nat_tests}
use Rattle.std.proofs.lemmas.List.Elements.{All-head, All-tail}
use Rattle.cdb_grid.specs.Units.{step, width_at, row_of}
use Rattle.cdb_grid.specs.Grid.{Place, width_of, step_east, IsCorner, IsInCell, beside, centre}
use Rattle.cdb_grid.specs.Tiles.{tile_height, tile_side, tile_step_east, element_corner, place_in, IsInTile}
use Rattle.cdb_grid.specs.declared.family.Family.{Family}
use Rattle.cdb_grid.specs.declared.family.Family.TheVariants.{Elev, Low, High, Mat}
use Rattle.cdb_grid.specs.declared.tile.Tile.{Tile}
use Rattle.cdb_grid.proofs.UnitLaws.{step-pos}
use Rattle.cdb_grid.proofs.GridLaws.{same_place, IsCorner_finer, child_corner, in_parent, width_of-pos}
use Rattle.cdb_grid.proofs.TileLaws.{tile_height-most}
use Rattle.cdb_grid.proofs.ElementLaws.{width_of-element, element-corner, near_element}
use Rattle.std.proofs.Math.Nat.{mul-pos}
use Rattle.cdb_source.specs.declared.kind.Kind.{Kind}
use Rattle.cdb_source.specs.declared.kind.Kind.TheVariants.{Elevation, Material}
use Rattle.cdb_source.specs.declared.source.Source.{Source}
use Rattle.cdb_source.specs.Sample.{sample_at}
use Rattle.cdb_source.specs.Offers.{over, best, newest}
use Rattle.cdb_source.specs.Values.{Sampled, sampled, same_kind, offer, elevation, own, lesser, greater, low, high, material}
use Rattle.cdb_source.specs.Reached.{kind_of, source_height, Reaches, tile_value, family_value, SameBut, SameReaching}
use Rattle.cdb_source.specs.Reached.SameBut.{ended, in_both, only_left, only_right}
use Rattle.cdb_source.proofs.OfferLaws.{over_none, or_none}
use Rattle.cdb_source.proofs.BestLaws.{comes_from}
use Rattle.cdb_source.proofs.SampleLaws.{in_box_of_sample}
use Rattle.cdb_source.proofs.MaterialLaws.{of_none}
use Rattle.cdb_source.proofs.Lists.{not_some}

-- what a list of offers gives doesn't see members that offer nothing
module _ {X : Type 0} (Matters : Source → Type 0) (of : Source → Option X)
    (idle : (s : Source) → (Matters s → ⊥) → of s ≡ None) where
  newest_same : (ss ts : List Source) → SameBut Matters ss ts → newest (map of ss) ≡ newest (map of ts)
  newest_same _ _ ended = refl
  newest_same _ _ (in_both x ss ts h) = ap (λ (o : Option X). option_or o (of x)) (newest_same ss ts h)
  newest_same _ _ (only_left x ss ts d h) = ap₂ option_or (newest_same ss ts h) (idle x d)
      ∙ or_none (newest (map of ts))
  newest_same _ _ (only_right y ss ts d h) = newest_same ss ts h
      ∙ sym (ap (option_or (newest (map of ts))) (idle y d) ∙ or_none (newest (map of ts)))

module _ (Matters : Source → Type 0) (of : Source → Option (ℕ × ℤ))
    (idle : (s : Source) → (Matters s → ⊥) → of s ≡ None) where
  best_same : (ss ts : List Source) → SameBut Matters ss ts → best (map of ss) ≡ best (map of ts)
  best_same _ _ ended = refl
  best_same _ _ (in_both x ss ts h) = ap (over (of x)) (best_same ss ts h)
  best_same _ _ (only_left x ss ts d h) = ap₂ over (idle x d) (best_same ss ts h) ∙ over_none (best (map of ts))
  best_same _ _ (only_right y ss ts d h) = best_same ss ts h
      ∙ sym (ap (λ (o : Option (ℕ × ℤ)). over o (best (map of ts))) (idle y d) ∙ over_none (best (map of ts)))

map-sampled : {X : Type 0} (f : Sampled → X) (ss : List Source) → map f (map sampled ss)
    ≡ map (λ (s : Source). f (sampled s)) ss
map-sampled f [] = refl
map-sampled {X} f (s ∷ ss) = ap (λ (xs : List X). f (sampled s) ∷ xs) (map-sampled f ss)

-- a family of elevations stands at the corners of its cells, and material at their centres
at_corner : (f : Family) (h : ℕ) (c : Place) → kind_of f ≡ Elevation → place_in f h c ≡ c
at_corner Elev h c e = refl
at_corner Low h c e = refl
at_corner High h c e = refl
at_corner Mat h c e = absurd (cc)

at_centre : (f : Family) (h : ℕ) (c : Place) → kind_of f ≡ Material → place_in f h c ≡ centre h c
at_centre Elev h c e = absurd (cc)
at_centre Low h c e = absurd (cc)
at_centre High h c e = absurd (cc)
at_centre Mat h c e = refl

-- a source that doesn't reach a tile offers no elevation in it
no_offer : (t : Tile) (k : ℕ) (q : Place) → kind_of t.family ≡ Elevation → k ≤ tile_height t
    → IsCorner k q → IsInTile t q
    → (s : Source) → (Reaches s.head t → ⊥) → offer k q (sampled s) ≡ None
no_offer t k q family fine corner inside s unreached = not_some (offer k q (sampled s)) (λ x e.
    let c = comes_from k q (sampled s) x e in
    let level = c.level in
    let at : place_in t.family (source_height s.head) q ≡ q = at_corner t.family (source_height s.head) q family in
    unreached (record {
      kind = c.kind ∙ sym family;
      level = omega arith;
      corner = q;
      on_grid = IsCorner_finer (source_height s.head) k q level corner;
      in_tile = rw at inside;
      in_box = rw at (in_box_of_sample s q x.1 c.value);
    }))

owned : (k kind : Kind) (m h : ℕ) (o : Option ℤ) (v : ℤ) → cond (same_kind k kind && nat_eq m h) o None ≡ Some v
    → (k ≡ kind) × (m ≡ h) × (o ≡ Some v)
owned Elevation Material m h o v e = absurd (cc)
owned Material Elevation m h o v e = absurd (cc)
owned Elevation Elevation m h o v e =
    elim (cases_Bool (nat_eq m h)) [ inl t ↦ (refl, same t, rw t at e) | inr f ↦ absurd (none_is (rw f at e)) ]
  where
    same : nat_eq m h ≡ true → m ≡ h
    same t = grind (arith, nat_tests)

    none_is : None ≡ Some v → ⊥
    none_is e = cc
owned Material Material m h o v e =
    elim (cases_Bool (nat_eq m h)) [ inl t ↦ (refl, same t, rw t at e) | inr f ↦ absurd (none_is (rw f at e)) ]
  where
    same : nat_eq m h ≡ true → m ≡ h
    same t = grind (arith, nat_tests)

    none_is : None ≡ Some v → ⊥
    none_is e = cc

-- nor a material
no_own : (t : Tile) (k : ℕ) (c : Place) → kind_of t.family ≡ Material → k ≤ tile_height t → IsCorner k c
    → IsInTile t (centre k c)
    → (s : Source) → (Reaches s.head t → ⊥) → own Material k (centre k c) (sampled s) ≡ None
no_own t k c family fine corner inside s unreached = not_some (own Material k (centre k c) (sampled s)) (λ v e.
    let o = owned s.head.kind Material (source_height s.head) k (sample_at s (centre k c)) v e in
    let level = o.1 in
    let at : place_in t.family (source_height s.head) c ≡ centre k c =
    at_centre t.family (source_height s.head) c family ∙ ap (λ (n : ℕ). centre n c) level in
    unreached (record {
      kind = o.0 ∙ sym family;
      level = omega arith;
      corner = c;
      on_grid = subst (λ n. IsCorner n c) (sym level) corner;
      in_tile = rw at inside;
      in_box = rw at (in_box_of_sample s (centre k c) v o.2);
    }))

-- all places of a cell lie in a tile
abbrev Within : Tile → ℕ → Place → Type 0
Within t h c = (q : Place) → IsInCell h c q → IsInTile t q

pub itself : (h : ℕ) (c : Place) → IsInCell h c c
itself h c =
    let p : 0 < step h = step-pos h in
    let q : 0 < step_east h c = mul-pos (width_of-pos c) p in
    record { south = omega arith; north = omega arith; west = omega arith; east = omega arith }

child_within : (t : Tile) (h i j : ℕ) (c : Place) → h < 34 → i < 2 → j < 2 → IsCorner (suc h) c → Within t (suc h) c
    → Within t h (beside h c i j)
child_within t h i j c lt up right corner within q inside = within q (in_parent h i j c q lt up right corner inside)

module _ (t : Tile) (ss ts : List Source) (same : SameReaching t ss ts) where
  elevation_same : (k : ℕ) (q : Place) → kind_of t.family ≡ Elevation → k ≤ tile_height t → IsCorner k q → IsInTile t q
      → elevation (map sampled ss) k q ≡ elevation (map sampled ts) k q
  elevation_same k q family fine corner inside =
      ap (option_map {T = ℕ × ℤ} (λ o. o.1))
      (ap best (map-sampled (offer k q) ss)
      ∙ best_same (λ s. Reaches s.head t) (λ s. offer k q (sampled s))
      (no_offer t k q family fine corner inside) ss ts same
      ∙ sym (ap best (map-sampled (offer k q) ts)))

  low_same : (h : ℕ) (c : Place) → kind_of t.family ≡ Elevation → h ≤ tile_height t → h ≤ 34 → IsCorner h c
      → Within t h c → low (map sampled ss) h c ≡ low (map sampled ts) h c
  unfolding low
  low_same zero c family fine le corner within = refl
  low_same (suc h) c family fine le corner within =
      let one : 1 < 2 = omega arith in let none : 0 < 2 = omega arith in let f : h ≤ tile_height t = omega arith in
      let l : h ≤ 34 = omega arith in
      let own = elevation_same (suc h) c family fine corner (within c (itself (suc h) c)) in
      let a = low_same h (beside h c 0 0) family f l (child_corner h 0 0 c le none none corner)
      (child_within t h 0 0 c le none none corner within) in
      let b = low_same h (beside h c 0 1) family f l (child_corner h 0 1 c le none one corner)
      (child_within t h 0 1 c le none one corner within) in
      let d = low_same h (beside h c 1 0) family f l (child_corner h 1 0 c le one none corner)
      (child_within t h 1 0 c le one none corner within) in
      let e = low_same h (beside h c 1 1) family f l (child_corner h 1 1 c le one one corner)
      (child_within t h 1 1 c le one one corner within) in
      ap₂ lesser own (ap₂ lesser (ap₂ lesser a b) (ap₂ lesser d e))

  high_same : (h : ℕ) (c : Place) → kind_of t.family ≡ Elevation → h ≤ tile_height t → h ≤ 34 → IsCorner h c
      → Within t h c → high (map sampled ss) h c ≡ high (map sampled ts) h c
  unfolding high
  high_same zero c family fine le corner within = refl
  high_same (suc h) c family fine le corner within =
      let one : 1 < 2 = omega arith in let none : 0 < 2 = omega arith in let f : h ≤ tile_height t = omega arith in
      let l : h ≤ 34 = omega arith in
      let own = elevation_same (suc h) c family fine corner (within c (itself (suc h) c)) in
      let a = high_same h (beside h c 0 0) family f l (child_corner h 0 0 c le none none corner)
      (child_within t h 0 0 c le none none corner within) in
      let b = high_same h (beside h c 0 1) family f l (child_corner h 0 1 c le none one corner)
      (child_within t h 0 1 c le none one corner within) in
      let d = high_same h (beside h c 1 0) family f l (child_corner h 1 0 c le one none corner)
      (child_within t h 1 0 c le one none corner within) in
      let e = high_same h (beside h c 1 1) family f l (child_corner h 1 1 c le one one corner)
      (child_within t h 1 1 c le one one corner within) in
      ap₂ greater own (ap₂ greater (ap₂ greater a b) (ap₂ greater d e))

  material_same : (h : ℕ) (c : Place) → kind_of t.family ≡ Material → h ≤ tile_height t → h ≤ 34 → IsCorner h c
      → Within t h c → material (map sampled ss) h c ≡ material (map sampled ts) h c
  unfolding material
  material_same zero c family fine le corner within = refl
  material_same (suc h) c family fine le corner within =
      let one : 1 < 2 = omega arith in let none : 0 < 2 = omega arith in let f : h ≤ tile_height t = omega arith in
      let l : h ≤ 34 = omega arith in
      let middle : IsInTile t (centre (suc h) c) = let last : suc h - 1 ≡ h = omega arith in
      subst (λ n. IsInTile t (beside n c 1 1)) (sym last)
      (within (beside h c 1 1) (in_parent h 1 1 c (beside h c 1 1) le one one corner (itself h (beside h c 1 1))))
      in
      let own = ap newest (map-sampled (own Material (suc h) (centre (suc h) c)) ss)
      ∙ newest_same (λ s. Reaches s.head t) (λ s. own Material (suc h) (centre (suc h) c) (sampled s))
      (no_own t (suc h) c family fine corner middle) ss ts same
      ∙ sym (ap newest (map-sampled (own Material (suc h) (centre (suc h) c)) ts)) in
      let a = material_same h (beside h c 0 0) family f l (child_corner h 0 0 c le none none corner)
      (child_within t h 0 0 c le none none corner within) in
      let b = material_same h (beside h c 0 1) family f l (child_corner h 0 1 c le none one corner)
      (child_within t h 0 1 c le none one corner within) in
      let d = material_same h (beside h c 1 0) family f l (child_corner h 1 0 c le one none corner)
      (child_within t h 1 0 c le one none corner within) in
      let e = material_same h (beside h c 1 1) family f l (child_corner h 1 1 c le one one corner)
      (child_within t h 1 1 c le one one corner within) in
      ap₂ option_or (rw (a, b, d, e) refl) own

-- the cell of an element lies in its tile
element_within : (t : Tile) (row col : ℕ) → row < tile_side t → col < tile_side t
    → Within t (tile_height t) (element_corner t row col)
element_within t row col below under q inside =
    let c : Place = element_corner t row col in
    let w : width_of c ≡ width_at (row_of t.cell.lat) = width_of-element t row col below in
    let s = inside.south in let n = inside.north in let west = inside.west in
    let e : q.east < c.east + tile_step_east t = subst (λ m. q.east < c.east + m * step (tile_height t))
    w inside.east in
    let near = near_element t row col (q.north - c.north) (q.east - c.east) below under (omega arith) (omega arith) in
    subst (λ p. IsInTile t p)
    (same_place (record { north = c.north + (q.north - c.north); east = c.east + (q.east - c.east) }) q
    (omega arith) (omega arith)) near

-- the values of a tile are the same of two lists of which the same sources reach it, in the same order
pub tile_same : (t : Tile) (ss ts : List Source) → SameReaching t ss ts → (row col : ℕ) → row < tile_side t
    → col < tile_side t → tile_value ss t row col ≡ tile_value ts t row col
tile_same t ss ts same row col below under = family_same t.family refl
  where
    corner : IsCorner (tile_height t) (element_corner t row col)
    corner = element-corner t row col below under

    within : Within t (tile_height t) (element_corner t row col)
    within = element_within t row col below under

    fine : tile_height t ≤ tile_height t
    fine = le_refl (tile_height t)

    family_same : (f : Family) → t.family ≡ f → family_value f ss (tile_height t) (element_corner t row col)
        ≡ family_value f ts (tile_height t) (element_corner t row col)
    family_same Elev e = elevation_same t ss ts same (tile_height t) (element_corner t row col) (ap kind_of e)
        fine corner (within (element_corner t row col) (itself (tile_height t) (element_corner t row col)))
    family_same Low e = low_same t ss ts same (tile_height t) (element_corner t row col) (ap kind_of e)
        fine (tile_height-most t) corner within
    family_same High e = high_same t ss ts same (tile_height t) (element_corner t row col) (ap kind_of e)
        fine (tile_height-most t) corner within
    family_same Mat e = material_same t ss ts same (tile_height t) (element_corner t row col) (ap kind_of e)
        fine (tile_height-most t) corner within

all_left : (R : Source → Type 0) (ts : List Source) → All (λ s. R s → ⊥) ts → SameBut R ts []
all_left R [] all = ended
all_left R (s ∷ ts) all = only_left s ts [] (All-head (λ s. R s → ⊥) s ts all)
    (all_left R ts (All-tail (λ s. R s → ⊥) s ts all))

pub appended : (R : Source → Type 0) (ss ts : List Source) → All (λ s. R s → ⊥) ts → SameBut R (ss ++ ts) ss
appended R [] ts all = all_left R ts all
appended R (s ∷ ss) ts all = in_both s (ss ++ ts) ss (appended R ss ts all)

low-nil : (h : ℕ) (c : Place) → low [] h c ≡ None
unfolding low
low-nil zero c = refl
low-nil (suc h) c =
    rw (low-nil h (beside h c 0 0), low-nil h (beside h c 0 1), low-nil h (beside h c 1 0), low-nil h (beside h c 1 1))
    refl

high-nil : (h : ℕ) (c : Place) → high [] h c ≡ None
unfolding high
high-nil zero c = refl
high-nil (suc h) c =
    rw (
      high-nil h (beside h c 0 0),
      high-nil h (beside h c 0 1),
      high-nil h (beside h c 1 0),
      high-nil h
          (beside h c 1 1),
    ) refl

material-nil : (h : ℕ) (c : Place) → material [] h c ≡ None
unfolding material
material-nil zero c = refl
material-nil (suc h) c =
    ap (λ (o : Option ℤ). option_or o None)
    (of_none (material [] h (beside h c 0 0)) (material [] h (beside h c 0 1)) (material [] h (beside h c 1 0))
    (material [] h (beside h c 1 1))
    (material-nil h (beside h c 0 0)) (material-nil h (beside h c 0 1)) (material-nil h (beside h c 1 0))
    (material-nil h (beside h c 1 1)))

family-nil : (f : Family) (h : ℕ) (c : Place) → family_value f [] h c ≡ None
family-nil Elev h c = refl
family-nil Low h c = low-nil h c
family-nil High h c = high-nil h c
family-nil Mat h c = material-nil h c

pub tile_untouched : (t : Tile) (ss ts : List Source) → All (λ (s : Source). Reaches s.head t → ⊥) ts → (row col : ℕ)
    → row < tile_side t → col < tile_side t → tile_value (ss ++ ts) t row col ≡ tile_value ss t row col
tile_untouched t ss ts all row col below under = tile_same t (ss ++ ts) ss (appended (λ s. Reaches s.head t) ss ts all)
    row col below under

pub tile_unreached : (t : Tile) (ss : List Source) → All (λ (s : Source). Reaches s.head t → ⊥) ss → (row col : ℕ)
    → row < tile_side t → col < tile_side t → tile_value ss t row col ≡ None
tile_unreached t ss all row col below under =
    tile_same t ss [] (all_left (λ s. Reaches s.head t) ss all) row col below under
    ∙ family-nil t.family (tile_height t) (element_corner t row col)
