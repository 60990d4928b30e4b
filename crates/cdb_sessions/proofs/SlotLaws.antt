-- The slots, as they are moved.
use Rattle.std.proofs.Common.{◌≡◌, ℕ, zero, suc, ◌<◌, ◌≤◌, Bool, true, false, List, [], ◌∷◌, ◌++◌}
use Rattle.std.proofs.Common.{length, take, Option, Some, None, refl, sym, ap, ◌∙◌, subst, arith, nat_eq, IsSome}
use Rattle.std.proofs.Common.{option_map}
use Rattle.std.specs.List.{find, AllByRecursion, IsDistinct}
use Rattle.std.specs.Map.{keys_of, lookup, lookup_entry, remove_entry}
use Rattle.std.specs.Option.{option_map_or}
use Rattle.std.specs.Ordering.{is_eq}
use Rattle.lru.specs.LruCache.{LruCache, lru_cache, promoted, put_entries, last_entry}
use Rattle.lru.proofs.Pairs.{cut_end, last_of_push}
use Rattle.std.proofs.lemmas.List.{take_all, append-nil}
use borrow.Author.Tests.{eqb-true}
use Rattle.std.proofs.lemmas.Bool.{ne_eqb, and_parts}
use Rattle.cdb_grid.specs.Order.{tile_cmp}
use Rattle.cdb_sessions.specs.declared.slot.Pair.{Pair}
use Rattle.cdb_sessions.specs.declared.slot.Slot.{Slot}
use Rattle.cdb_sessions.specs.Slots.{NumberedSlot, fresh, fresh_slot, filled_slot, is_pair, holds, IsMoved, IsRenewed}
use Rattle.cdb_sessions.proofs.Cuts.{found_at, none_found, Sole, sole}
use Rattle.cdb_grid.proofs.TileOrder.{same_by_order}

-- ---- seven slots, one after another

fresh_none : (m n : ℕ) → n ≤ m → lookup_entry (nat_eq m) (fresh n) ≡ None
fresh_none m zero le = refl
fresh_none m (suc n) le =
    let other : nat_eq m n ≡ false = ne_eqb m n (λ e. absurd (omega arith)) in
    rw other (fresh_none m n (omega arith))

pub length-fresh : (n : ℕ) → length (fresh n) ≡ n
length-fresh zero = refl
length-fresh (suc n) = let on = length-fresh n in omega arith

pub put_fresh : (n : ℕ) → n < 7 → put_entries nat_eq (lru_cache (fresh n) 7) n (fresh_slot n) ≡ fresh (suc n)
put_fresh n lt =
    ap (λ o. option_map_or (λ (e : NumberedSlot). (e.0, fresh_slot n) ∷ remove_entry (nat_eq n) (fresh n)) o
    ((n, fresh_slot n) ∷ take 6 (fresh n))) (fresh_none n n (omega arith))
    ∙ ap (λ es. (n, fresh_slot n) ∷ es) (take_all 6 (fresh n) (omega (arith, length-fresh n)))

-- ---- the slot that has a file

pair_is : (pair : Pair) (kept : Option Pair) → is_pair pair kept ≡ true → kept ≡ Some pair
pair_is pair None e = absurd cc
pair_is pair (Some kept) e =
    let h = and_parts (nat_eq kept.version pair.version) (is_eq (tile_cmp kept.tile pair.tile)) e in
    let version : kept.version ≡ pair.version = eqb-true _ _ h.0 in
    let tile = same_by_order kept.tile pair.tile h.1 in
    λ i. Some (record { version = version i; tile = tile i })

pub slot_is : (pair : Pair) (slot : Slot) → holds pair slot ≡ true → slot ≡ filled_slot slot.frame pair
slot_is pair slot e = let same = pair_is pair slot.pair e in λ i. record { frame = slot.frame; pair = same i }

pub moved : (pair : Pair) (es : List NumberedSlot) (e : NumberedSlot) → IsDistinct nat_eq (keys_of es)
    → find (λ (f : NumberedSlot). holds pair f.1) es ≡ Some e
    → IsMoved pair e.1.frame es (promoted (nat_eq e.0) es)
moved pair es e d found =
    let at = found_at (λ (f : NumberedSlot). holds pair f.1) es e found in
    let slot = slot_is pair e.1 at.passes in
    let one = sole at.before e.0 e.1 at.after (subst (λ l. IsDistinct nat_eq (keys_of l)) at.cut d) in
    let entry : (e.0, e.1) ≡ (e.0, filled_slot e.1.frame pair) = ap (λ s. (e.0, s)) slot in
    let front : promoted (nat_eq e.0) (at.before ++ e ∷ at.after) ≡ e ∷ (at.before ++ at.after) =
    rw (one.entry, one.removed) refl in
    record {
      before = at.before;
      number = e.0;
      after = at.after;
      was = at.cut ∙ ap (λ (f : NumberedSlot). at.before ++ f ∷ at.after) entry;
      now = ap (promoted (nat_eq e.0)) at.cut ∙ front ∙ ap (λ (f : NumberedSlot). f ∷ (at.before ++ at.after)) entry;
    }

-- ---- the last slot

pub record LastOf (es : List NumberedSlot) : Type 0 where
  pub before : List NumberedSlot
  pub last : NumberedSlot
  pub was : es ≡ before ++ last ∷ []
  pub entry : last_entry es ≡ Some last
  pub sole_one : Sole es last.0 last.1 before

pub last_of : (es : List NumberedSlot) → 0 < length es → IsDistinct nat_eq (keys_of es) → LastOf es
last_of es some d =
    let end = cut_end es some in
    let one = sole end.0 end.1.0 end.1.1 [] (subst (λ l. IsDistinct nat_eq (keys_of l)) end.2 d) in
    let all : Sole es end.1.0 end.1.1 (end.0 ++ []) =
    subst (λ (l : List NumberedSlot). Sole l end.1.0 end.1.1 (end.0 ++ [])) (sym end.2) one in
    record {
      before = end.0;
      last = end.1;
      was = end.2;
      entry = ap last_entry end.2 ∙ (last_of_push end.0 end.1).0;
      sole_one = record { entry = all.entry; value = all.value; removed = all.removed ∙ append-nil end.0 };
    }

-- the number of the last slot is there, and the slot gets another content
pub record Renews (old : LruCache ℕ Slot) (n : ℕ) : Type 0 where
  pub there : IsSome (lookup (nat_eq n) old.entries)
  pub renewed : (frame : ℕ) (pair : Pair) (new : LruCache ℕ Slot) (given : Slot)
      → Some given ≡ lookup (nat_eq n) old.entries
      → new ≡ lru_cache (put_entries nat_eq old n (filled_slot frame pair)) old.cap
      → IsRenewed frame pair old new given.frame

pub renews : (old : LruCache ℕ Slot) (n : ℕ) (s : Slot) → 0 < length old.entries
    → IsDistinct nat_eq (keys_of old.entries) → last_entry old.entries ≡ Some (n, s) → Renews old n
renews old n s some d e =
    let l = last_of old.entries some d in
    let same : Some l.last ≡ Some (n, s) = sym l.entry ∙ e in
    let pair_same : l.last ≡ (n, s) = cc in
    let key : l.last.0 ≡ n = ap (λ (f : NumberedSlot). f.0) pair_same in
    let one = subst (λ k. Sole old.entries k l.last.1 l.before) key l.sole_one in
    record {
      there = subst (λ o. IsSome o) (sym one.value) refl;
      renewed = λ frame pair new given g put.
          let content : Some given ≡ Some l.last.1 = g ∙ one.value in
          let content_same : given ≡ l.last.1 = cc in
          let entries : put_entries nat_eq old n (filled_slot frame pair) ≡ (n, filled_slot frame pair) ∷ l.before =
          rw (one.entry, one.removed) refl in
          let numbered : (n, filled_slot frame pair) ≡ (l.last.0, filled_slot frame pair) =
          ap (λ k. (k, filled_slot frame pair)) (sym key) in
          record {
            before = l.before;
            last = l.last;
            was = l.was;
            frame_is = ap (λ (t : Slot). t.frame) content_same;
            now = put ∙ ap (λ es. lru_cache es old.cap) (entries ∙ ap (λ (f : NumberedSlot). f ∷ l.before) numbered);
          };
    }

abbrev pub Found : Option (ℕ × ℕ) → Option (ℕ × ℕ) → Type 0
Found a b = a ≡ b

with_found : (pair : Pair) (es : List NumberedSlot) (n frame : ℕ) → IsDistinct nat_eq (keys_of es)
    → (o : Option NumberedSlot)
    → find (λ (e : NumberedSlot). holds pair e.1) es ≡ o
    → Found (Some (n, frame)) (option_map (λ (e : NumberedSlot). (e.0, e.1.frame)) o)
    → IsMoved pair frame es (promoted (nat_eq n) es)
with_found pair es n frame d None found e = absurd cc
with_found pair es n frame d (Some f) found e =
    let both_same : ◌≡◌ {A = ℕ × ℕ} (n, frame) (f.0, f.1.frame) = cc in
    let number : f.0 ≡ n = sym (ap (λ (p : ℕ × ℕ). p.0) both_same) in
    let frame_same : f.1.frame ≡ frame = sym (ap (λ (p : ℕ × ℕ). p.1) both_same) in
    let is = moved pair es f d found in
    let step = subst (λ k. IsMoved pair f.1.frame es (promoted (nat_eq k) es)) number is in
    subst (λ k. IsMoved pair k es (promoted (nat_eq n) es)) frame_same step

none_with : (p : NumberedSlot → Bool) (es : List NumberedSlot) (o : Option NumberedSlot) → find p es ≡ o
    → Found None (option_map (λ (e : NumberedSlot). (e.0, e.1.frame)) o) → AllByRecursion (λ e. p e ≡ false) es
none_with p es None found e = none_found p es found
none_with p es (Some f) found e = absurd cc

pub none_holds : (pair : Pair) (es : List NumberedSlot)
    → Found None (option_map (λ (e : NumberedSlot). (e.0, e.1.frame)) (find (λ (e : NumberedSlot). holds pair e.1) es))
    → AllByRecursion (λ e. holds pair e.1 ≡ false) es
none_holds pair es e = none_with (λ (f : NumberedSlot). holds pair f.1) es
    (find (λ (f : NumberedSlot). holds pair f.1) es) refl e

-- what a look-up among the slots told
pub found_moved : (pair : Pair) (es : List NumberedSlot) (n frame : ℕ) → IsDistinct nat_eq (keys_of es)
    → Found (Some (n, frame))
    (option_map (λ (e : NumberedSlot). (e.0, e.1.frame)) (find (λ (e : NumberedSlot). holds pair e.1) es))
    → IsMoved pair frame es (promoted (nat_eq n) es)
found_moved pair es n frame d e = with_found pair es n frame d (find (λ (f : NumberedSlot). holds pair f.1) es) refl e
