-- A look-up in an ascending index.
use Rattle.std.proofs.Common.{◌≡◌, ℕ, ◌-◌, ◌<◌, ◌≤◌, false, List, length, get_or, None}
use Rattle.std.proofs.Common.{Err, refl, sym, ap, ◌∙◌, subst, arith, Contains, inl, inr, true≢false}
use Rattle.std.specs.List.{HoldsAt}
use Rattle.std.specs.List.Sorted.{IsSorted, IsPartitionPoint, IsBinarySearchResult}
use Rattle.std.specs.Cmp.{IsTotalOrder, then_total, on_total, nat_cmp_total}
use Rattle.std.specs.Ordering.{ordering_then, ordering_index, nat_cmp, is_lt, is_eq}
use Rattle.std.specs.declared.cmp.Ordering.{Ordering}
use Rattle.std.specs.declared.cmp.Ordering.TheVariants.{Less, Equal, Greater}
use Rattle.std.proofs.lemmas.List.Sorted.{searchable_from_sorted}
use Rattle.std.proofs.lemmas.List.{get_or_default}
use Rattle.std.proofs.lemmas.Bool.{cases_lt}
use Rattle.std.proofs.lemmas.Cmp.{ranked}
use Rattle.cdb_grid.specs.Order.{tile_cmp}
use Rattle.cdb_grid.specs.OrderLaws.{tile_cmp-total}
use Rattle.cdb_grid.specs.declared.tile.Tile.{Tile}
use Rattle.cdb_grid.proofs.TileOrder.{self_equal, tile_self, same_by_order}
use Rattle.cdb_chain.specs.declared.place.Place.{Place}
use Rattle.cdb_chain.specs.Versions.{place, place_cmp, IsLast}
use Rattle.cdb_chain.specs.inside.Versions.{IsPlaced}

pub place_total : IsTotalOrder place_cmp
place_total =
    then_total (on_total (λ (p : Place). p.tile) tile_cmp-total) (on_total (λ (p : Place). p.version) nat_cmp_total)

place_self : (p : Place) → place_cmp p p ≡ Equal
place_self p = self_equal (place_cmp p p) (place_total.antisymm p p)

-- ---- numbers by their order

less_from : (a b : ℕ) → nat_cmp a b ≡ Less → a < b
less_from a b e = ranked a b Less (sym e)

not_greater : (a b : ℕ) → a ≤ b → nat_cmp a b ≡ Greater → ⊥
not_greater a b le e = let lt : b < a = ranked a b Greater (sym e) in omega arith

not_less : (a b : ℕ) → is_lt (nat_cmp a b) ≡ false → b ≤ a
not_less a b e = by (nat_cmp a b) refl e where
  by : (r : Ordering) → r ≡ nat_cmp a b → is_lt r ≡ false → b ≤ a
  by Less t f = absurd cc
  by Equal t f = let same : a ≡ b = ranked a b Equal t in omega arith
  by Greater t f = let lt : b < a = ranked a b Greater t in omega arith

equal_from : (a b : ℕ) → nat_cmp a b ≡ Equal → a ≡ b
equal_from a b e = ranked a b Equal (sym e)

-- ---- the place before

pub record Before (before : Place) (tile : Tile) (other version : ℕ) : Type 0 where
  pub tile_is : before.tile ≡ tile
  pub least : other ≤ before.version

by_order : (o : Ordering) (b w v : ℕ) → ordering_then o (nat_cmp b v) ≡ Less → is_lt (ordering_then o (nat_cmp b w))
    ≡ false → (o ≡ Equal) × (w ≤ b)
by_order Less b w v l n = absurd cc
by_order Equal b w v l n = (refl, not_less b w n)
by_order Greater b w v l n = absurd cc

pub before_is : (before : Place) (tile : Tile) (other version : ℕ) → place_cmp before (place tile version) ≡ Less
    → is_lt (place_cmp before (place tile other)) ≡ false → Before before tile other version
before_is before tile other version l n =
    let o = by_order (tile_cmp before.tile tile) before.version other version l n in
    record { tile_is = same_by_order before.tile tile (ap is_eq o.0); least = o.1 }

same_place : (p : Place) (tile : Tile) (version : ℕ) → place_cmp p (place tile version) ≡ Equal → p ≡ place tile version
same_place p tile version e = both (tile_cmp p.tile tile) refl e where
  both : (o : Ordering) → tile_cmp p.tile tile ≡ o → ordering_then o (nat_cmp p.version version) ≡ Equal
      → p ≡ place tile version
  both Less t f = absurd cc
  both Equal t f =
      let same = same_by_order p.tile tile (ap is_eq t) in
      let number = equal_from p.version version f in
      λ i. record { tile = same i; version = number i }
  both Greater t f = absurd cc

-- ---- where a search ends

not_lt : (o : Ordering) → 1 ≤ ordering_index o → is_lt o ≡ false
not_lt Less h = absurd (omega arith)
not_lt Equal h = refl
not_lt Greater h = refl

abbrev pub IsCut : List Place → Place → ℕ → Type 0
IsCut index key at = IsPartitionPoint (λ y. place_cmp y key ≡ Less) (λ y. place_cmp y key ≡ Greater) index at

pub cut_of : (index : List Place) (key : Place) (at : ℕ) → IsSorted place_cmp index
    → IsBinarySearchResult (λ y. place_cmp y key) index (Err at) → IsCut index key at
cut_of index key at sorted position = position (searchable_from_sorted place_total (λ (p : Place). p) index key sorted)

module _ (index : List Place) (version : ℕ) (tile : Tile) (at : ℕ) (cut : IsCut index (place tile version) at) where
  not_after : (other k : ℕ) → other ≤ version → at ≤ k → k < length index → get_or index k (place tile other)
      ≡ place tile other → ⊥
  not_after other k up le lt e =
      let greater = subst (λ (p : Place). place_cmp p (place tile version) ≡ Greater) e
      (cut.1 k (place tile other) le lt) in
      let numbers : nat_cmp other version ≡ Greater =
      subst (λ o. ordering_then o (nat_cmp other version) ≡ Greater) (tile_self tile) greater in
      not_greater other version up numbers

  pub none_first : at ≡ 0 → IsPlaced index version tile None
  none_first zero other up c = not_after other c.0 up (omega arith) c.1 c.2

  module _ (sorted : IsSorted place_cmp index) (within : at ≤ length index) (some : 0 < at) (before : Place)
      (is : before ≡ get_or index (at - 1) before) where
    pub less : place_cmp before (place tile version) ≡ Less
    less = subst (λ (p : Place). place_cmp p (place tile version) ≡ Less) (sym is)
        (cut.0 (at - 1) before (omega arith) (omega arith))

    pub each : (other : ℕ) → other ≤ version → Contains index (place tile other) → Before before tile other version
    each other up c = elim (cases_lt c.0 at) [
      | inr above ↦ absurd (not_after other c.0 up above c.1 c.2)
      | inl below ↦
          let x = place tile other in
          let rise = searchable_from_sorted place_total (λ (p : Place). p) index x sorted c.0 (at - 1) x (omega arith)
          (omega arith) in
          let here : place_cmp (get_or index c.0 x) x ≡ Equal = ap (λ (p : Place). place_cmp p x) c.2 ∙ place_self x in
          let last : get_or index (at - 1) x ≡ before = get_or_default index (at - 1) x before (omega arith) ∙ sym is in
          let one = subst (λ o. ordering_index o ≤ ordering_index (place_cmp (get_or index (at - 1) x) x)) here rise in
          let two = subst (λ (p : Place). 1 ≤ ordering_index (place_cmp p x)) last one in
          before_is before tile other version less (not_lt (place_cmp before x) two)
    ]

    there : Contains index before
    there = (at - 1, omega arith, sym is)

    less_version : (o : Ordering) (b v : ℕ) → o ≡ Equal → ordering_then o (nat_cmp b v) ≡ Less → b < v
    less_version o b v e l = less_from b v (subst (λ p. ordering_then p (nat_cmp b v) ≡ Less) e l)

    pub last_found : before.tile ≡ tile → IsLast index version tile before.version
    last_found same =
        let equal : tile_cmp before.tile tile ≡ Equal = ap (λ (t : Tile). tile_cmp t tile) same ∙ tile_self tile in
        let lt = less_version (tile_cmp before.tile tile) before.version version equal less in
        let whole : before ≡ place tile before.version = λ i. record { tile = same i; version = before.version } in
        record {
          up_to = omega arith;
          there = subst (λ (p : Place). Contains index p) whole there;
          greatest = λ other up c. (each other up c).least;
        }

    pub none_found : is_eq (tile_cmp before.tile tile) ≡ false → IsPlaced index version tile None
    none_found other_tile other up c =
        let same = (each other up c).tile_is in
        let equal : tile_cmp before.tile tile ≡ Equal = ap (λ (t : Tile). tile_cmp t tile) same ∙ tile_self tile in
        absurd (true≢false (sym (ap is_eq equal) ∙ other_tile))

pub found_same : (index : List Place) (version : ℕ) (tile : Tile) (k : ℕ) → k < length index
    → HoldsAt (λ y. place_cmp y (place tile version) ≡ Equal) index k → IsLast index version tile version
found_same index version tile k lt h =
    let x = place tile version in
    let same : get_or index k x ≡ x = same_place (get_or index k x) tile version (h x) in
    record { up_to = omega arith; there = (k, lt, same); greatest = λ other up c. up }
