-- Summaries of cells: cells that no source reaches, and a cell from its four finer cells.
use Rattle.std.proofs.Common.{◌≡◌, ℕ, zero, suc, ◌+◌, ◌-◌, ◌*◌, ◌/◌, ◌<◌, ◌≤◌, ℤ, true, cond, ◌&&◌, nat_le, nat_eq, List, [], ◌∷◌, map, All, Option, Some, None, refl, sym, ap, ap₂, ◌∙◌, subst, inl, inr, arith}
use Rattle.std.specs.Option.{option_map, option_or}
use Rattle.std.proofs.lemmas.Bool.{cases_Bool, leb-true}
use Rattle.std.proofs.lemmas.Bool.Decides.{nat_tests}
use Rattle.std.proofs.lemmas.List.Elements.{All-head, All-tail}
use Rattle.cdb_grid.specs.Units.{degree, step, width_at}
use Rattle.cdb_grid.specs.Grid.{Place, width_of, IsCorner, beside, centre}
use Rattle.cdb_grid.proofs.GridLaws.{same_place, IsCorner_finer, child_corner, in_parent}
use Rattle.cdb_source.proofs.SampleLaws.{in_box_of_sample}
use Rattle.cdb_source.proofs.MaterialLaws.{of_none}
use Rattle.cdb_source.specs.declared.kind.Kind.{Kind}
use Rattle.cdb_source.specs.declared.kind.Kind.TheVariants.{Elevation, Material}
use Rattle.cdb_source.specs.declared.source.Source.{Source}
use Rattle.cdb_source.specs.Sample.{IsInBox, sample_at}
use Rattle.cdb_source.specs.Offers.{over, best, newest}
use Rattle.cdb_source.specs.Values.{Sampled, sampled, same_kind, offer, own, elevation, low, high, material}
use Rattle.cdb_source.specs.Reached.{source_height}
use Rattle.cdb_source.proofs.ReachLaws.{itself}
use Rattle.cdb_scratch.specs.inside.Cells.{ReachesCell}
use Rattle.cdb_scratch.specs.inside.Summaries.{summary_kind, summary_of, own_of, combined}
use Rattle.cdb_material.specs.declared.four.Four.{Four}
use Rattle.cdb_scratch.specs.declared.cell.Summary.{Summary}
use Rattle.cdb_scratch.specs.declared.cell.Summary.TheVariants.{Least, Greatest, MostFrequent}

same_of_true : (m n : ℕ) → nat_eq m n ≡ true → m ≡ n
same_of_true m n t = grind (arith, nat_tests)

-- no offer where the source has none
offers_none : (kind : Kind) (m k : ℕ) (o : Option ℤ) → (kind ≡ Elevation → m ≤ k → (v : ℤ) → o ≡ Some v → ⊥)
    → cond (same_kind kind Elevation && nat_le m k) (option_map {T = ℤ} {U = ℕ × ℤ} (λ v. (m, v)) o) None ≡ None
offers_none Material m k o unreached = refl
offers_none Elevation m k None unreached = elim (cases_Bool (nat_le m k)) [ inl t ↦ rw t refl | inr f ↦ rw f refl ]
offers_none Elevation m k (Some v) unreached =
    elim (cases_Bool (nat_le m k)) [ inl t ↦ absurd (unreached refl (leb-true m k t) v refl) | inr f ↦ rw f refl ]

owns_none : (kind : Kind) (m k : ℕ) (o : Option ℤ) → (kind ≡ Material → m ≡ k → (v : ℤ) → o ≡ Some v → ⊥)
    → cond (same_kind kind Material && nat_eq m k) o None ≡ None
owns_none Elevation m k o unreached = refl
owns_none Material m k None unreached = elim (cases_Bool (nat_eq m k)) [ inl t ↦ rw t refl | inr f ↦ rw f refl ]
owns_none Material m k (Some v) unreached =
    elim (cases_Bool (nat_eq m k)) [ inl t ↦ absurd (unreached refl (same_of_true m k t) v refl) | inr f ↦ rw f refl ]

-- none of a list of sources reaches a cell
abbrev pub NoneReaches : Kind → ℕ → Place → List Source → Type 0
NoneReaches kind h c ss = All (λ s. ReachesCell kind h c s.head → ⊥) ss

no_best : (h : ℕ) (c : Place) (ss : List Source) → IsCorner h c → NoneReaches Elevation h c ss
    → best (map (offer h c) (map sampled ss)) ≡ None
no_best h c [] corner none = refl
no_best h c (s ∷ ss) corner none =
    let here = All-head (λ (s : Source). ReachesCell Elevation h c s.head → ⊥) s ss none in
    let first : offer h c (sampled s) ≡ None = offers_none s.head.kind (source_height s.head) h (sample_at s c)
    (λ same fine v e. here (record {
      kind_is = same;
      level = fine;
      corner = c;
      on_grid = IsCorner_finer (source_height s.head) h c fine corner;
      in_cell = itself h c;
      in_box = in_box_of_sample s c v e;
    })) in
    ap₂ over first (no_best h c ss corner (All-tail (λ (s : Source). ReachesCell Elevation h c s.head → ⊥) s ss none))

no_newest : (h : ℕ) (c : Place) (ss : List Source) → IsCorner h c → NoneReaches Material h c ss
    → newest (map (own Material h (centre h c)) (map sampled ss)) ≡ None
no_newest h c [] corner none = refl
no_newest h c (s ∷ ss) corner none =
    let here = All-head (λ (s : Source). ReachesCell Material h c s.head → ⊥) s ss none in
    let first : own Material h (centre h c) (sampled s) ≡ None = owns_none s.head.kind (source_height s.head) h
    (sample_at s (centre h c)) (λ kinds same v e. here (record {
      kind_is = kinds;
      level = omega arith;
      corner = c;
      on_grid = subst (λ n. IsCorner n c) (sym same) corner;
      in_cell = itself h c;
      in_box = subst (λ p. IsInBox s.head p) (ap (λ n. centre n c) (sym same)) (in_box_of_sample s (centre h c) v e);
    })) in
    ap₂ option_or (no_newest h c ss corner (All-tail (λ (s : Source). ReachesCell Material h c s.head → ⊥) s ss none))
    first

no_elevation : (h : ℕ) (c : Place) (ss : List Source) → IsCorner h c → NoneReaches Elevation h c ss
    → elevation (map sampled ss) h c ≡ None
no_elevation h c ss corner none = ap (option_map {T = ℕ × ℤ} (λ o. o.1)) (no_best h c ss corner none)

own_none : (x : Summary) (h : ℕ) (c : Place) (ss : List Source) → IsCorner h c → NoneReaches (summary_kind x) h c ss
    → own_of x (map sampled ss) h c ≡ None
own_none Least h c ss corner none = no_elevation h c ss corner none
own_none Greatest h c ss corner none = no_elevation h c ss corner none
own_none MostFrequent h c ss corner none = no_newest h c ss corner none

none_in_child : (kind : Kind) (h i j : ℕ) (c : Place) → h < 34 → i < 2 → j < 2 → IsCorner (suc h) c → (ss : List Source)
    → NoneReaches kind (suc h) c ss → NoneReaches kind h (beside h c i j) ss
none_in_child kind h i j c lt up right corner ss none = λ k d below r. none k d below (record {
  kind_is = r.kind_is;
  level = (let le = r.level in omega arith);
  corner = r.corner;
  on_grid = r.on_grid;
  in_cell = in_parent h i j c r.corner lt up right corner r.in_cell;
  in_box = r.in_box;
})

-- a summary of the next coarser height, and of height 0
abbrev four_of : Summary → List Sampled → ℕ → Place → Four
four_of x ss k c = record {
  south_west = summary_of x ss k (beside k c 0 0);
  south_east = summary_of x ss k (beside k c 0 1);
  north_west = summary_of x ss k (beside k c 1 0);
  north_east = summary_of x ss k (beside k c 1 1);
}

summary_next : (x : Summary) (ss : List Sampled) (k : ℕ) (c : Place) → summary_of x ss (suc k) c
    ≡ combined x (own_of x ss (suc k) c) (four_of x ss k c)
unfolding low high material
summary_next Least ss k c = refl
summary_next Greatest ss k c = refl
summary_next MostFrequent ss k c = refl

none_at_zero : (x : Summary) (ss : List Sampled) (c : Place) → summary_of x ss 0 c ≡ None
unfolding low high material
none_at_zero Least ss c = refl
none_at_zero Greatest ss c = refl
none_at_zero MostFrequent ss c = refl

combined_none : (x : Summary) (o a b d e : Option ℤ) → o ≡ None → a ≡ None → b ≡ None → d ≡ None → e ≡ None
    → combined x o (record { south_west = a; south_east = b; north_west = d; north_east = e }) ≡ None
combined_none Least o a b d e p q r s t = rw (p, q, r, s, t) refl
combined_none Greatest o a b d e p q r s t = rw (p, q, r, s, t) refl
combined_none MostFrequent o a b d e p q r s t = ap₂ option_or (of_none a b d e q r s t) p

pub summary_none : (x : Summary) (h : ℕ) (c : Place) (ss : List Source) → h ≤ 34 → IsCorner h c
    → NoneReaches (summary_kind x) h c ss → summary_of x (map sampled ss) h c ≡ None
summary_none x zero c ss le corner none = none_at_zero x (map sampled ss) c
summary_none x (suc h) c ss le corner none =
    let one : 1 < 2 = omega arith in let zero_two : 0 < 2 = omega arith in let l : h ≤ 34 = omega arith in
    summary_next x (map sampled ss) h c
    ∙ combined_none x _ _ _ _ _ (own_none x (suc h) c ss corner none)
    (summary_none x h (beside h c 0 0) ss l (child_corner h 0 0 c le zero_two zero_two corner)
    (none_in_child (summary_kind x) h 0 0 c le zero_two zero_two corner ss none))
    (summary_none x h (beside h c 0 1) ss l (child_corner h 0 1 c le zero_two one corner)
    (none_in_child (summary_kind x) h 0 1 c le zero_two one corner ss none))
    (summary_none x h (beside h c 1 0) ss l (child_corner h 1 0 c le one zero_two corner)
    (none_in_child (summary_kind x) h 1 0 c le one zero_two corner ss none))
    (summary_none x h (beside h c 1 1) ss l (child_corner h 1 1 c le one one corner)
    (none_in_child (summary_kind x) h 1 1 c le one one corner ss none))

pub summary_zero : (x : Summary) (ss : List Sampled) (h : ℕ) (c : Place) → h ≡ 0 → None ≡ summary_of x ss h c
summary_zero x ss h c e = subst (λ n. None ≡ summary_of x ss n c) (sym e) (sym (none_at_zero x ss c))

pub assembled : (x : Summary) (ss : List Sampled) (h k : ℕ) (c sw se nw ne : Place) (own a b d e r : Option ℤ)
    → h ≡ suc k → beside k c 0 0 ≡ sw → beside k c 0 1 ≡ se → beside k c 1 0 ≡ nw → beside k c 1 1 ≡ ne
    → a ≡ summary_of x ss k sw → b ≡ summary_of x ss k se → d ≡ summary_of x ss k nw → e ≡ summary_of x ss k ne
    → own ≡ own_of x ss h c
    → r ≡ combined x own (record { south_west = a; south_east = b; north_west = d; north_east = e })
    → r ≡ summary_of x ss h c
assembled x ss h k c sw se nw ne own a b d e r is psw pse pnw pne pa pb pd pe pown pr =
    let qa : a ≡ summary_of x ss k (beside k c 0 0) = pa ∙ ap (summary_of x ss k) (sym psw) in
    let qb : b ≡ summary_of x ss k (beside k c 0 1) = pb ∙ ap (summary_of x ss k) (sym pse) in
    let qd : d ≡ summary_of x ss k (beside k c 1 0) = pd ∙ ap (summary_of x ss k) (sym pnw) in
    let qe : e ≡ summary_of x ss k (beside k c 1 1) = pe ∙ ap (summary_of x ss k) (sym pne) in
    let own_is : own ≡ own_of x ss (suc k) c = pown ∙ ap (λ n. own_of x ss n c) is in
    pr ∙ rw (qa, qb, qd, qe, own_is) refl ∙ sym (summary_next x ss k c) ∙ ap (λ n. summary_of x ss n c) (sym is)

-- the corners of the four finer cells
pub at_child : (k i j n e up right : ℕ) → up ≡ n + i * step k → right ≡ e + j * (width_at (n / degree) * step k)
    → beside k (record { north = n; east = e }) i j ≡ record { north = up; east = right }
unfolding width_of
at_child k i j n e up right a b = same_place (beside k (record { north = n; east = e }) i j)
    (record { north = up; east = right }) (sym a) (sym b)

pub child_is_corner : (h k i j : ℕ) (c p : Place) → h ≡ suc k → h ≤ 34 → i < 2 → j < 2 → IsCorner h c → beside k c i j
    ≡ p → IsCorner k p
child_is_corner h k i j c p e le up right corner at =
    subst (λ q. IsCorner k q) at (child_corner k i j c (omega arith) up right (subst (λ n. IsCorner n c) e corner))

right_of : (e w s v t : ℕ) → w ≡ v → s ≡ t → e + w * s ≡ e + 1 * (v * t)
right_of e w s v t p q = ap (λ n. e + n * s) p ∙ ap (λ n. e + v * n) q ∙ once
  where
    once : e + v * t ≡ e + 1 * (v * t)
    once = omega arith

pub one_less : (h : ℕ) → (h ≡ 0 → ⊥) → h ≡ suc (h - 1)
one_less h some = omega arith

pub south_west_at : (k n e : ℕ) → beside k (record { north = n; east = e }) 0 0 ≡ record { north = n; east = e }
south_west_at k n e = at_child k 0 0 n e n e (omega arith) (omega arith)

pub south_east_at : (k n e w s : ℕ) → w ≡ width_at (n / degree) → s ≡ step k
    → beside k (record { north = n; east = e }) 0 1 ≡ record { north = n; east = e + w * s }
south_east_at k n e w s p q = at_child k 0 1 n e n (e + w * s) (omega arith)
    (right_of e w s (width_at (n / degree)) (step k) p q)

pub north_west_at : (k n e u : ℕ) → u ≡ step k → beside k (record { north = n; east = e }) 1 0
    ≡ record { north = n + u; east = e }
north_west_at k n e u q = at_child k 1 0 n e (n + u) e (omega arith) (omega arith)

pub north_east_at : (k n e u w s : ℕ) → u ≡ step k → w ≡ width_at (n / degree) → s ≡ step k
    → beside k (record { north = n; east = e }) 1 1 ≡ record { north = n + u; east = e + w * s }
north_east_at k n e u w s r p q = at_child k 1 1 n e (n + u) (e + w * s) (omega arith)
    (right_of e w s (width_at (n / degree)) (step k) p q)
