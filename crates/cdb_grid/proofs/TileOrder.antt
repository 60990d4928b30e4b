-- Laws of the stated order of tiles.
use Rattle.std.proofs.Common.{◌≡◌, ℕ, zero, suc, ◌<◌, ◌⊎◌, inl, inr, true, ◌&&◌, nat_eq, List, get_or, Some, refl, sym, ap, ◌∙◌, subst, arith, rules}
use Rattle.std.specs.Prelude.{slice_get, AllPairs, ◌<ℤ◌}
use Rattle.std.specs.Ordering.{ordering_reverse, ordering_then, is_eq, int_eq, nat_cmp, int_cmp, on, then_cmp}
use Rattle.std.specs.Cmp.{int_cmp_is}
use Rattle.std.specs.declared.cmp.Ordering.{Ordering}
use Rattle.std.specs.declared.cmp.Ordering.TheVariants.{Less, Equal, Greater}
use Rattle.std.proofs.lemmas.Bool.Decides.{Decides-int_eq}
use Rattle.std.proofs.lemmas.Int.{ints}
use Rattle.std.proofs.lemmas.Option.{get_or_from_slice_get, same_Some, slice_get_within}
use Rattle.std.proofs.lemmas.Bool.{and_parts}
use borrow.Author.Tests.{eqb-true}
use denote.Enum.Bare.{sameb, same_true}
use Rattle.cdb_grid.specs.contracts.family.Family.{the_type}
use Rattle.cdb_grid.specs.Children.{IsParent}
use Rattle.cdb_grid.specs.Order.{tile_cmp, family_rank}
use Rattle.cdb_grid.specs.OrderLaws.{tile_cmp-total, tile_ties}
use Rattle.cdb_grid.specs.declared.family.Family.{Family}
use Rattle.cdb_grid.specs.declared.family.Family.TheVariants.{Elev, Low, High, Mat}
use Rattle.cdb_grid.specs.declared.tile.Tile.{Tile}
use Rattle.cdb_grid.proofs.Same.{same_geocell, same_tile}

-- ---- equal tiles

-- an answer that is its own reverse
pub self_equal : (o : Ordering) → o ≡ ordering_reverse o → o ≡ Equal
self_equal Less e = absurd cc
self_equal Equal e = refl
self_equal Greater e = absurd cc

pub tile_self : (t : Tile) → tile_cmp t t ≡ Equal
tile_self t = self_equal (tile_cmp t t) (tile_cmp-total.antisymm t t)

-- tiles that are equal by their order are one
pub same_by_order : (s t : Tile) → is_eq (tile_cmp s t) ≡ true → s ≡ t
same_by_order s t h =
    let e = tile_ties s t ∙ h in
    let a = and_parts (sameb the_type s.family t.family) _ e in
    let b = and_parts (int_eq s.cell.lat t.cell.lat && int_eq s.cell.lon t.cell.lon) _ a.1 in
    let p = and_parts (int_eq s.cell.lat t.cell.lat) (int_eq s.cell.lon t.cell.lon) b.0 in
    let l = and_parts (int_eq s.level.number t.level.number) _ b.1 in
    let u = and_parts (nat_eq s.up t.up) (nat_eq s.right t.right) l.1 in
    same_tile s t (same_true the_type (search rules) s.family t.family a.0)
    (same_geocell s.cell t.cell ((Decides-int_eq s.cell.lat t.cell.lat).0 p.0)
    ((Decides-int_eq s.cell.lon t.cell.lon).0 p.1))
    ((Decides-int_eq s.level.number t.level.number).0 l.0) (eqb-true _ _ u.0) (eqb-true _ _ u.1)

pub same_of_equal : (s t : Tile) → tile_cmp s t ≡ Equal → s ≡ t
same_of_equal s t e = same_by_order s t (ap is_eq e)

-- ---- which of two tiles stands first in an ascending list

abbrev IsLess : Ordering → Type 0
IsLess Less = Unit {0}
IsLess Equal = ⊥
IsLess Greater = ⊥

-- not each of two tiles comes before the other
pub not_both : (s t : Tile) → tile_cmp s t ≡ Less → tile_cmp t s ≡ Less → ⊥
not_both s t a b = subst IsLess (sym a ∙ tile_cmp-total.antisymm s t ∙ ap ordering_reverse b) tt

order_of : (i k : ℕ) → (i < k) ⊎ ((i ≡ k) ⊎ (k < i))
order_of zero zero = inr (inl refl)
order_of zero (suc k) = inl (omega arith)
order_of (suc i) zero = inr (inr (omega arith))
order_of (suc i) (suc k) = up (order_of i k)
  where
    up : (i < k) ⊎ ((i ≡ k) ⊎ (k < i)) → (suc i < suc k) ⊎ ((suc i ≡ suc k) ⊎ (suc k < suc i))
    up (inl l) = inl (omega (arith, l))
    up (inr (inl e)) = inr (inl (ap suc e))
    up (inr (inr l)) = inr (inr (omega (arith, l)))

-- a tile that comes before another one stands before it in an ascending list that has both
pub precedes : (tiles : List Tile) (i k : ℕ) (s t : Tile) → AllPairs (λ a b. tile_cmp a b ≡ Less) tiles
    → slice_get tiles i ≡ Some s → slice_get tiles k ≡ Some t → tile_cmp s t ≡ Less → i < k
precedes tiles i k s t ordered at_i at_k less = of (order_of i k)
  where
    of : (i < k) ⊎ ((i ≡ k) ⊎ (k < i)) → i < k
    of (inl l) = l
    of (inr (inl e)) =
        let G : ℕ → Type 0 = λ n. slice_get tiles n ≡ Some t in
        let same : s ≡ t = same_Some s t (sym at_i ∙ subst G (sym e) at_k) in
        let C : Tile → Type 0 = λ u. tile_cmp u t ≡ Less in
        absurd (not_both t t (subst C same less) (subst C same less))
    of (inr (inr l)) =
        let C : Tile → Type 0 = λ u. tile_cmp u (get_or tiles i s) ≡ Less in
        let D : Tile → Type 0 = λ u. tile_cmp t u ≡ Less in
        absurd (not_both s t less
        (subst D (get_or_from_slice_get tiles i s s at_i)
        (subst C (get_or_from_slice_get tiles k t s at_k) (ordered k i s l (slice_get_within tiles i s at_i)))))

-- ---- finer tiles come first, and families in their order

-- the order of tiles of one family and one level
abbrev rest_cmp : Tile → Tile → Ordering
rest_cmp =
    then_cmp (on (λ t. t.cell.lat) int_cmp)
    (then_cmp (on (λ t. t.cell.lon) int_cmp)
    (then_cmp (on (λ t. t.up) nat_cmp)
    (on (λ t. t.right) nat_cmp)))

by_level : (f : Family) (o rest : Ordering) → o ≡ Less → ordering_then (nat_cmp (family_rank f) (family_rank f))
    (ordering_then o rest) ≡ Less
by_level Elev o rest e = ap (λ r. ordering_then r rest) e
by_level Low o rest e = ap (λ r. ordering_then r rest) e
by_level High o rest e = ap (λ r. ordering_then r rest) e
by_level Mat o rest e = ap (λ r. ordering_then r rest) e

pub child_before : (c t : Tile) → IsParent c t → tile_cmp c t ≡ Less
child_before c t p =
    let finer : t.level.number <ℤ c.level.number = let e = p.coarser in omega (arith, ints) in
    let less : int_cmp t.level.number c.level.number ≡ Less =
    sym (int_cmp_is t.level.number c.level.number Less finer) in
    subst (λ (g : Family). ordering_then (nat_cmp (family_rank c.family) (family_rank g))
    (ordering_then (int_cmp t.level.number c.level.number) (rest_cmp c t)) ≡ Less) (sym p.family)
    (by_level c.family (int_cmp t.level.number c.level.number) (rest_cmp c t) less)

-- elevations come before the least and the greatest ones of each level
pub elevation_first : (s t : Tile) → s.family ≡ Elev → (t.family ≡ Low) ⊎ (t.family ≡ High) → tile_cmp s t ≡ Less
elevation_first s t e f =
    subst (λ (g : Family). ordering_then (nat_cmp (family_rank g) (family_rank t.family)) (rest s t) ≡ Less) (sym e)
    (by f)
  where
    rest : Tile → Tile → Ordering
    rest a b = ordering_then (int_cmp b.level.number a.level.number) (rest_cmp a b)

    by : (t.family ≡ Low) ⊎ (t.family ≡ High) → ordering_then (nat_cmp 0 (family_rank t.family)) (rest s t) ≡ Less
    by (inl low) = subst (λ (g : Family). ordering_then (nat_cmp 0 (family_rank g)) (rest s t) ≡ Less) (sym low) refl
    by (inr high) = subst (λ (g : Family). ordering_then (nat_cmp 0 (family_rank g)) (rest s t) ≡ Less) (sym high) refl
