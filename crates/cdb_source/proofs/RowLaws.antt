-- Rows of numbers, the posts that they become, and the posts of a maker.
use Rattle.std.proofs.Common.{◌≡◌, ℕ, ◌+◌, ◌-◌, ◌*◌, ◌<◌, ◌≤◌, ℤ, pos, List, [], ◌∷◌, ◌++◌, length, take, drop, map, get_or, set, All, IsTrue, Decides, ◌≤ℤ◌, ◌↔◌, ◌⊎◌, inl, inr, ⊎_elim, Bool, ◌&&◌, refl, sym, ap, ◌∙◌, arith, replicate}
use Rattle.std.proofs.lemmas.Int.{ints}
use Rattle.std.proofs.lemmas.List.{take_more, take_more_set, take_all, take-take, get_or-take, map-append, take_at}
use Rattle.std.proofs.lemmas.List.Elements.{All-more, All-push, All-replicate, All-take, All-get_or}
use Rattle.std.proofs.lemmas.Bool.Decides.{Decides-and, Decides-like}
use Rattle.std.proofs.lemmas.Grind.{common_steps}
use Rattle.cdb_source.specs.declared.kind.Kind.{Kind}
use Rattle.cdb_source.specs.declared.kind.Kind.TheVariants.{Elevation, Material}
use Rattle.cdb_source.specs.Posts.{IsAllowed, IsPost, post_of, none_of, least_of, greatest_of}

-- one more number of a row: the flag of those before and the test of this one
pub allowed_more : (P : ℤ → Type 0) (row : List ℤ) (i : ℕ) (all one : Bool) → i < length row
    → Decides all (All P (take i row)) → Decides one (P (get_or row i (pos 0)))
    → Decides (all && one) (All P (take (i + 1) row))
allowed_more P row i all one lt before here = Decides-like (all && one) (λ h. All-more P row i (pos 0) lt h.0 h.1) split
    (Decides-and all one before here)
  where
    split : All P (take (i + 1) row) → All P (take i row) × P (get_or row i (pos 0))
    split h =
        let long : i < length (take (i + 1) row) = grind (arith, common_steps) in
        let first = All-take P i (take (i + 1) row) h in
        let last = All-get_or P (take (i + 1) row) i (pos 0) long h in (
          rw (take-take i (i + 1) row (omega arith)) at first,
          rw (get_or-take (i + 1) row i (pos 0) (omega arith)) at last,
        )

-- the flag over all numbers is the answer
pub allowed_all : (P : ℤ → Type 0) (row : List ℤ) (i : ℕ) (all : Bool) → length row ≤ i
    → Decides all (All P (take i row)) → Decides all (All P row)
allowed_all P row i all le d = rw (take_all i row le) at d

-- the test by the limits of a kind
pub by_limits : (kind : Kind) (v least greatest number : ℤ) (t : Bool) → least ≡ least_of kind
    → greatest ≡ greatest_of kind
    → Decides t ((number ≡ v) ⊎ ((least ≤ℤ number) × (number ≤ℤ greatest))) → Decides t (IsAllowed kind v number)
by_limits kind v least greatest number t l g d =
    Decides-like t (⊎_elim inl (λ h. inr (record { least = rw (← l) h.0; greatest = rw (← g) h.1 })))
    (⊎_elim inl (λ h. inr (rw l h.least, rw g h.greatest))) d

-- one more number becomes one more post
pub posts_more : (f : ℤ → ℤ) (part row : List ℤ) (i : ℕ) (v : ℤ) → i < length part → i < length row
    → take i part ≡ map f (take i row) → v ≡ f (get_or row i (pos 0)) → take (i + 1) (set part i v)
    ≡ map f (take (i + 1) row)
posts_more f part row i v h k e is =
    rw (take_more_set part i v h, take_more row i (pos 0) k, map-append f (take i row) (get_or row i (pos 0) ∷ []), is)
    (ap (λ xs. xs ++ f (get_or row i (pos 0)) ∷ []) e)

pub in_range_more : (kind : Kind) (part : List ℤ) (i : ℕ) (v : ℤ) → i < length part → All (IsPost kind) (take i part)
    → IsPost kind v → All (IsPost kind) (take (i + 1) (set part i v))
in_range_more kind part i v h all p = rw (take_more_set part i v h) (All-push (IsPost kind) (take i part) v all p)

-- a list that was written over whole
pub refilled : (n : ℕ) (xs ys : List ℤ) → n ≡ length xs → length ys ≡ length xs
    → take n (xs ++ drop (length xs) ys) ≡ xs
refilled n xs ys e h = take_at xs (drop (length xs) ys) n (sym e)

-- the mark of no value is a post
pub none_is_post : (kind : Kind) → IsPost kind (none_of kind)
none_is_post Elevation = record { least = omega (arith, ints); greatest = omega (arith, ints) }
none_is_post Material = record { least = omega (arith, ints); greatest = omega (arith, ints) }

pub all_none : (kind : Kind) (n : ℕ) (v : ℤ) (posts : List ℤ) → v ≡ none_of kind → posts ≡ replicate n v
    → All (IsPost kind) posts
all_none kind n v posts e is = rw (is, e) (All-replicate (IsPost kind) n (none_of kind) (none_is_post kind))

-- the answer of the test on a row, over the maker as callers see it
pub answered : (a b : Kind) (v w : ℤ) (row : List ℤ) (r s : Bool) → a ≡ b → w ≡ v → r ≡ s
    → (IsTrue r ↔ All (IsAllowed a w) row) → (IsTrue s ↔ All (IsAllowed b v) row)
answered a b v w row r s ab wv rs h = rw (← ab, ← wv, ← rs) h

one_more : (k cols : ℕ) → k * cols + cols ≡ (k + 1) * cols
one_more k cols = omega arith

pub one_row : (due cols n : ℕ) → 0 < due → n ≡ cols → (due - 1) * cols + n ≡ due * cols
one_row due cols n h e =
    let back : due - 1 + 1 ≡ due = omega arith in
    rw e (one_more (due - 1) cols ∙ ap (λ k. k * cols) back)

-- the posts keep their number and their range where a list is written over whole
pub count_kept : (new old items : List ℤ) (n m : ℕ) → n ≡ length items → length new ≡ length old → old ≡ items
    → length items ≡ m → length (take n (new ++ drop (length new) items)) ≡ m
count_kept new old items n m e same is count =
    let len : length items ≡ length new = ap length (sym is) ∙ sym same in
    ap length (refilled n new items (e ∙ len) len) ∙ sym len ∙ count

pub in_range_kept : (kind : Kind) (new old items : List ℤ) (n : ℕ) → n ≡ length items → length new ≡ length old
    → old ≡ items → (All (IsPost kind) old → All (IsPost kind) new) → All (IsPost kind) items
    → All (IsPost kind) (take n (new ++ drop (length new) items))
in_range_kept kind new old items n e same is kept all =
    let len : length items ≡ length new = ap length (sym is) ∙ sym same in
    rw (refilled n new items (e ∙ len) len) (kept (rw is all))

-- the posts of one more row stand before those of the rows that came
pub stacked : (a b : Kind) (v w : ℤ) (row new old items now : List ℤ) (n from before : ℕ) → a ≡ b → w ≡ v
    → n ≡ length new → length items ≡ length new → drop from new ≡ map (post_of a w) row ++ drop (from + length row) old
    → old ≡ items → from + length row ≡ before → drop before items ≡ now
    → drop from (take n (new ++ drop (length new) items)) ≡ map (post_of b v) row ++ now
stacked a b v w row new old items now n from before ab wv len items_len put is there seen =
    rw (refilled n new items len items_len, put, is, there, seen, ab, wv) refl
