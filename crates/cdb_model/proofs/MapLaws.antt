-- Laws of maps of files: one path changed, the folder above, and what lies under a folder.
use Rattle.std.proofs.Common.{◌≡◌, ◌≢◌, ℕ, zero, suc, ◌<◌, ◌==◌, ◌||◌, Bool, true, false, ◌⊎◌, inl, inr, [], ◌∷◌, length, take, get_or, refl, sym, ap, ◌∙◌, subst, arith}
use Rattle.std.proofs.lemmas.Bool.{cond-true, cond-false, false_from_ne_true, eq-eqb, ne_eqb, or_left, or_right, true≢false}
use Rattle.std.proofs.lemmas.Slice.Eq.{bytes_eq-Decides}
use Rattle.std.specs.Str.{bytes_eq}
use Rattle.std.proofs.lemmas.Grind.{common_steps}
use mathlib.Core.Path.{fun_ext}
use Rattle.cdb_model.specs.Maps.{Text, put, has_slash, folder_above}

-- ---- equal texts
pub bytes_eq-same : (p : Text) → bytes_eq p p ≡ true
bytes_eq-same p = (bytes_eq-Decides p p).1 refl

pub bytes_eq-other : (p q : Text) → q ≢ p → bytes_eq p q ≡ false
bytes_eq-other p q ne = false_from_ne_true (bytes_eq p q) (λ e. ne (sym ((bytes_eq-Decides p q).0 e)))

pub same_text : (p q : Text) → (p ≡ q) ⊎ (p ≢ q)
same_text p q = cases (bytes_eq p q) refl
  where
    cases : (b : Bool) → bytes_eq p q ≡ b → (p ≡ q) ⊎ (p ≢ q)
    cases true e = inl ((bytes_eq-Decides p q).0 e)
    cases false e = inr (λ same. true≢false (sym ((bytes_eq-Decides p q).1 same) ∙ e))

-- ---- one path changed
pub put-same : {A : Type 0} (m : Text → A) (p : Text) (v : A) → put m p v p ≡ v
unfolding put
put-same m p v = cond-true (bytes_eq p p) v (m p) (bytes_eq-same p)

pub put-at : {A : Type 0} (m : Text → A) (p : Text) (v : A) (q : Text) → q ≡ p → put m p v q ≡ v
put-at m p v q e = ap (λ t. put m p v t) e ∙ put-same m p v

pub put-other : {A : Type 0} (m : Text → A) (p : Text) (v : A) (q : Text) → q ≢ p → put m p v q ≡ m q
unfolding put
put-other m p v q ne = cond-false (bytes_eq p q) v (m q) (bytes_eq-other p q ne)

pub put-put : {A : Type 0} (m : Text → A) (p : Text) (v w : A) → put (put m p v) p w ≡ put m p w
put-put {A = A} m p v w = fun_ext (λ q. at q (same_text q p))
  where
    at : (q : Text) → (q ≡ p) ⊎ (q ≢ p) → put (put m p v) p w q ≡ put m p w q
    at q (inl e) = let P : Text → Type 0 = λ t. put (put m p v) p w t ≡ put m p w t in
        subst P (sym e) (put-same (put m p v) p w ∙ sym (put-same m p w))
    at q (inr ne) = put-other (put m p v) p w q ne ∙ put-other m p v q ne ∙ sym (put-other m p w q ne)

-- The map is as it was where the path gets what it has.
pub put-itself : {A : Type 0} (m : Text → A) (p : Text) (v : A) → m p ≡ v → put m p v ≡ m
put-itself {A = A} m p v has = fun_ext (λ q. at q (same_text q p))
  where
    at : (q : Text) → (q ≡ p) ⊎ (q ≢ p) → put m p v q ≡ m q
    at q (inl e) = let P : Text → Type 0 = λ t. put m p v t ≡ m t in subst P (sym e) (put-same m p v ∙ sym has)
    at q (inr ne) = put-other m p v q ne

-- ---- the folder above
has_slash-at : (bs : Text) (k : ℕ) → k < length bs → get_or bs k 0 ≡ 47 → has_slash bs ≡ true
has_slash-at [] k l e = absurd (omega arith)
has_slash-at (c ∷ rest) zero l e = or_left (c == 47) (has_slash rest) (eq-eqb c 47 e)
has_slash-at (c ∷ rest) (suc k) l e = or_right (c == 47) (has_slash rest) (has_slash-at rest k (omega arith) e)

has_slash-none : (bs : Text) → ((i : ℕ) → i < length bs → get_or bs i 0 ≢ 47) → has_slash bs ≡ false
has_slash-none [] none = refl
has_slash-none (c ∷ rest) none =
    or_none (c == 47) (has_slash rest) (ne_eqb c 47 (none 0 (omega arith)))
    (has_slash-none rest (λ i l. none (suc i) (omega arith)))
  where
    or_none : (x y : Bool) → x ≡ false → y ≡ false → (x || y) ≡ false
    or_none x y a b = grind (arith, common_steps)

pub folder_above-last : (bs : Text) (k : ℕ) → k < length bs → get_or bs k 0 ≡ 47
    → ((i : ℕ) → k < i → i < length bs → get_or bs i 0 ≢ 47)
    → folder_above bs ≡ take k bs
unfolding folder_above
folder_above-last [] k l e after = absurd (omega arith)
folder_above-last (c ∷ rest) zero l e after =
    cond-false (has_slash rest) (c ∷ folder_above rest) []
    (has_slash-none rest (λ i m. after (suc i) (omega arith) (omega arith)))
folder_above-last (c ∷ rest) (suc k) l e after =
    cond-true (has_slash rest) (c ∷ folder_above rest) [] (has_slash-at rest k (omega arith) e)
    ∙ ap (λ t. c ∷ t) (folder_above-last rest k (omega arith) e (λ i m n. after (suc i) (omega arith) (omega arith)))

pub folder_above-none : (bs : Text) → ((i : ℕ) → i < length bs → get_or bs i 0 ≢ 47) → folder_above bs ≡ []
unfolding folder_above
folder_above-none [] none = refl
folder_above-none (c ∷ rest) none = cond-false (has_slash rest) (c ∷ folder_above rest) []
    (has_slash-none rest (λ i l. none (suc i) (omega arith)))
