-- A look-up as a function of the records.
use Rattle.std.proofs.Common.{◌≡◌, ℕ, zero, suc, ◌<◌, ◌≤◌, ◌⊎◌, inl, inr, Bool, true, false, ◌&&◌, if◌then◌else◌}
use Rattle.std.proofs.Common.{nat_le, leb-true, leb-false, le-leb, true≢false, List, [], ◌∷◌, length, get_or, Contains}
use Rattle.std.proofs.Common.{Option, Some, None, refl, sym, ap, ◌∙◌, subst, arith}
use Rattle.std.specs.Ordering.{is_eq}
use Rattle.std.proofs.lemmas.List.Folds.{list_any_at, Any-from_list_any}
use Rattle.cdb_grid.specs.Order.{tile_cmp}
use Rattle.cdb_grid.specs.declared.tile.Tile.{Tile}
use Rattle.cdb_grid.proofs.TileOrder.{tile_self, same_by_order}
use Rattle.cdb_manifest.specs.declared.record_.Record.{Record}
use Rattle.cdb_chain.specs.Versions.{Versions, HasTile, IsNewest, IsFound}
use Rattle.cdb_chain.specs.LookUps.{is_listed, newer, found_in}

-- ---- in one list

pub contains_listed : (tiles : List Tile) (t : Tile) → Contains tiles t → is_listed tiles t ≡ true
contains_listed tiles t c =
    list_any_at (λ u. is_eq (tile_cmp u t)) tiles c.0 t c.1 (ap is_eq (ap (λ u. tile_cmp u t) c.2 ∙ tile_self t))

pub listed_contains : (tiles : List Tile) (t : Tile) → is_listed tiles t ≡ true → Contains tiles t
listed_contains tiles t h =
    let a = Any-from_list_any (λ u. is_eq (tile_cmp u t)) tiles h in
    let same : a.1 ≡ t = same_by_order (a.1) t a.4 in
    (a.0, a.2, subst (λ u. get_or tiles (a.0) u ≡ u) same a.3)

-- ---- in the records

abbrev pub Answer : List Record → ℕ → Tile → Option ℕ → Type 0
Answer records version t None = (other : ℕ) → other ≤ version → HasTile records other t → ⊥
Answer records version t (Some found) = IsNewest records version t found

answer_of : (chain : Versions) (version : ℕ) (t : Tile) (r : Option ℕ) → IsFound chain version t r
    → Answer chain.records version t r
unfolding IsFound
answer_of chain version t None f = f
answer_of chain version t (Some v) f = f

one_answer : (records : List Record) (version : ℕ) (t : Tile) (a b : Option ℕ) → Answer records version t a
    → Answer records version t b → a ≡ b
one_answer records version t None None f g = refl
one_answer records version t (Some v) None f g = absurd (g v f.up_to f.has)
one_answer records version t None (Some w) f g = absurd (f w g.up_to g.has)
one_answer records version t (Some v) (Some w) f g =
    let a : v ≤ w = g.greatest v f.up_to f.has in
    let b : w ≤ v = f.greatest w g.up_to g.has in
    let same : v ≡ w = omega arith in
    ap (λ n. Some n) same

-- what the first record says
abbrev One : Record → ℕ → Tile → Option ℕ → Type 0
One r version t None = r.version ≤ version → Contains r.tiles t → ⊥
One r version t (Some v) = (v ≡ r.version) × (v ≤ version) × Contains r.tiles t

one_of : (r : Record) (version : ℕ) (t : Tile)
    → One r version t (if nat_le r.version version && is_listed r.tiles t then Some r.version else None)
one_of r version t = by (nat_le r.version version) (is_listed r.tiles t) refl refl
  where
    by : (a b : Bool) → nat_le r.version version ≡ a → is_listed r.tiles t ≡ b
        → One r version t (if a && b then Some r.version else None)
    by true true e f = (refl, leb-true _ _ e, listed_contains r.tiles t f)
    by true false e f = λ le has. true≢false (sym (contains_listed r.tiles t has) ∙ f)
    by false b e f = λ le has. true≢false (sym (le-leb _ _ le) ∙ e)

first_has : (r : Record) (records : List Record) (t : Tile) → Contains r.tiles t → HasTile (r ∷ records) r.version t
first_has r records t has = record { item = r; among = (0, omega arith, refl); version_is = refl; listed = has }

later_has : (r : Record) (records : List Record) (v : ℕ) (t : Tile) → HasTile records v t → HasTile (r ∷ records) v t
later_has r records v t h =
    record {
      item = h.item;
      among = (suc h.among.0, omega (arith, h.among.1), h.among.2);
      version_is = h.version_is;
      listed = h.listed;
    }

split_has : (r : Record) (records : List Record) (v : ℕ) (t : Tile) → HasTile (r ∷ records) v t
    → ((r.version ≡ v) × Contains r.tiles t) ⊎ HasTile records v t
split_has r records v t h = by h.among.0 h.among.1 h.among.2
  where
    by : (k : ℕ) → k < length (r ∷ records) → get_or (r ∷ records) k h.item ≡ h.item
        → ((r.version ≡ v) × Contains r.tiles t) ⊎ HasTile records v t
    by zero l e =
        inl (
          ap (λ (q : Record). q.version) e
              ∙ h.version_is,
          subst (λ (q : Record). Contains q.tiles t) (sym e) h.listed,
        )
    by (suc k) l e =
        inr (record { item = h.item; among = (k, omega (arith, l), e); version_is = h.version_is; listed = h.listed })

join : (r : Record) (records : List Record) (version : ℕ) (t : Tile) (a b : Option ℕ) → One r version t a
    → Answer records version t b → Answer (r ∷ records) version t (newer a b)
join r records version t None None f g = λ other up has. elim (split_has r records other t has) [
  | inl one ↦ f (omega (arith, one.0, up)) one.1
  | inr more ↦ g other up more
]
join r records version t None (Some w) f g = record {
  up_to = g.up_to;
  has = later_has r records w t g.has;
  greatest = λ other up has. elim (split_has r records other t has) [
    | inl one ↦ absurd (f (omega (arith, one.0, up)) one.1)
    | inr more ↦ g.greatest other up more
  ];
}
join r records version t (Some v) None f g = record {
  up_to = f.1;
  has = subst (λ n. HasTile (r ∷ records) n t) (sym f.0) (first_has r records t f.2);
  greatest = λ other up has. elim (split_has r records other t has) [
    | inl one ↦ omega (arith, one.0, f.0)
    | inr more ↦ absurd (g other up more)
  ];
}
join r records version t (Some v) (Some w) f g = by (nat_le v w) refl
  where
    by : (b : Bool) → nat_le v w ≡ b → Answer (r ∷ records) version t (if b then Some w else Some v)
    by true e = let le : v ≤ w = leb-true v w e in record {
      up_to = g.up_to;
      has = later_has r records w t g.has;
      greatest = λ other up has. elim (split_has r records other t has) [
        | inl one ↦ omega (arith, one.0, f.0, le)
        | inr more ↦ g.greatest other up more
      ];
    }
    by false e = let lt : w < v = leb-false v w e in record {
      up_to = f.1;
      has = subst (λ n. HasTile (r ∷ records) n t) (sym f.0) (first_has r records t f.2);
      greatest = λ other up has. elim (split_has r records other t has) [
        | inl one ↦ omega (arith, one.0, f.0)
        | inr more ↦ let m : other ≤ w = g.greatest other up more in omega (arith, lt, m)
      ];
    }

pub found_answers : (version : ℕ) (records : List Record) (t : Tile)
    → Answer records version t (found_in version records t)
unfolding found_in
found_answers version [] t = λ other up has. absurd (omega (arith, has.among.1))
found_answers version (r ∷ records) t =
    join r records version t _ (found_in version records t) (one_of r version t) (found_answers version records t)

pub found_is : (chain : Versions) (version : ℕ) (t : Tile) (r : Option ℕ) → IsFound chain version t r
    → r ≡ found_in version chain.records t
found_is chain version t r f =
    one_answer chain.records version t r (found_in version chain.records t) (answer_of chain version t r f)
    (found_answers version chain.records t)
