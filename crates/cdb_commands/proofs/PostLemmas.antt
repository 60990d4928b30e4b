-- The loop over the posts.
use Rattle.std.proofs.Common.{◌≡◌, ◌<◌, ◌≤◌, Bool, true, false, cond, ◌&&◌, List, [], ◌∷◌, ◌++◌, length, Option, Some, None, refl, ap, sym, ◌∙◌, append_assoc, arith}
use Rattle.std.specs.Prelude.{ℤ, nat_lt, nat_le, option_map, option_and_then}
use Rattle.std.proofs.lemmas.Bool.{lt-ltb, le-leb}
use Rattle.std.proofs.lemmas.Bool.Decides.{nat_tests}
use Rattle.cdb_model.specs.Text.{Text}
use Rattle.cdb_model.specs.Words.{signed, first_word}
use Rattle.cdb_model.specs.Grammar.{each, posts}

abbrev pub read_all : List Text → Option (List ℤ)
read_all ws = each (signed 6) ws

abbrev pub with_front : List ℤ → Option (List ℤ) → Option (List ℤ)
with_front items o = option_map (λ xs. items ++ xs) o

pub word_is : (ws rest : List Text) (w : Text) → Some (w, rest) ≡ first_word ws → ws ≡ w ∷ rest
word_is [] rest w e = absurd cc
word_is (v ∷ vs) rest w e = let p : ◌≡◌ {A = Text × List Text} (w, rest) (v, vs) = cc in
    ap (λ (q : Text × List Text). q.0 ∷ q.1) (sym p)

pub no_word : (ws : List Text) → None ≡ first_word ws → ws ≡ []
no_word [] e = refl
no_word (v ∷ vs) e = absurd cc

regroup : (items : List ℤ) (x : ℤ) (o : Option (List ℤ)) → with_front items (option_map (λ xs. x ∷ xs) o)
    ≡ with_front (items ++ x ∷ []) o
regroup items x None = refl
regroup items x (Some xs) = ap Some (sym (append_assoc items (x ∷ []) xs))

pub goes_on : (items : List ℤ) (total : Option (List ℤ)) (ws rest : List Text) (w : Text) (x : ℤ) → ws ≡ w ∷ rest
    → Some x ≡ signed 6 w → total ≡ with_front items (read_all ws)
    → total ≡ with_front (items ++ x ∷ []) (read_all rest)
goes_on items total ws rest w x is read e =
    let one : read_all (w ∷ rest) ≡ option_map (λ xs. x ∷ xs) (read_all rest) =
    ap (option_and_then (λ x. option_map (λ xs. x ∷ xs) (read_all rest))) (sym read) in
    e ∙ ap (with_front items) (ap read_all is ∙ one) ∙ regroup items x (read_all rest)

pub bad_word : (items : List ℤ) (total : Option (List ℤ)) (ws rest : List Text) (w : Text) → ws ≡ w ∷ rest
    → None ≡ signed 6 w → total ≡ with_front items (read_all ws) → total ≡ None
bad_word items total ws rest w is read e =
    let one : read_all (w ∷ rest) ≡ None =
    ap (option_and_then (λ x. option_map (λ xs. x ∷ xs) (read_all rest))) (sym read) in
    e ∙ ap (with_front items) (ap read_all is ∙ one)

either : {A : Type 0} (b : Bool) → cond {A = Option A} b None None ≡ None
either true = refl
either false = refl

pub posts_bad : (ws : List Text) → read_all ws ≡ None → posts ws ≡ None
unfolding posts
posts_bad ws e = rw e (either (nat_lt 0 (length ws) && nat_le (length ws) 64))

pub posts_full : (ws : List Text) → 64 < length ws → posts ws ≡ None
unfolding posts
posts_full ws h =
    let a : nat_lt 0 (length ws) ≡ true = lt-ltb 0 (length ws) (omega arith) in
    let b : nat_le (length ws) 64 ≡ false = grind (arith, nat_tests) in
    rw (a, b) refl

pub posts_empty : (ws : List Text) → length ws ≡ 0 → posts ws ≡ None
unfolding posts
posts_empty ws h = rw h refl

pub posts_done : (ws : List Text) (items : List ℤ) → read_all ws ≡ Some items → 0 < length ws → length ws ≤ 64
    → Some items ≡ posts ws
unfolding posts
posts_done ws items e some few =
    let a : nat_lt 0 (length ws) ≡ true = lt-ltb 0 (length ws) some in
    let b : nat_le (length ws) 64 ≡ true = le-leb (length ws) 64 few in
    rw (a, b, e) refl
