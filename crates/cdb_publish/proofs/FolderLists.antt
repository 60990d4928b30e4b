-- Folders, each once.
use Rattle.std.proofs.Common.{◌≡◌, ◌≢◌, ℕ, zero, suc, ◌+◌, ◌||◌, Bool, true, false, ◌⊎◌, inl, inr, List, [], ◌∷◌, ◌++◌, map, filter, length, length-append, take, get_or, ◌<◌, ◌≤◌, refl, sym, ap, ◌∙◌, arith, append_assoc}
use Rattle.std.specs.Prelude.{if◌then◌else◌, not}
use Rattle.std.specs.List.{list_any}
use Rattle.std.specs.Str.{bytes_eq}
use Rattle.std.proofs.lemmas.Bool.{cond-true, cond-false}
use Rattle.std.proofs.lemmas.List.{map-append, append-nil}
use Rattle.cdb_grid.specs.declared.tile.Tile.{Tile}
use Rattle.cdb_model.specs.Maps.{Text, folder_above}
use Rattle.cdb_model.specs.Names.{source_path, path}
use Rattle.cdb_model.proofs.MapLaws.{bytes_eq-same, bytes_eq-other, same_text}
use Rattle.cdb_crash.specs.Plan.{each_once}
use Rattle.cdb_publish.specs.inside.Planning.{source_paths_from, paths_in, once_more}

abbrev among : Text → List Text → Bool
among y texts = list_any (λ other. bytes_eq other y) texts

abbrev but : Text → List Text → List Text
but f texts = filter (λ other. not (bytes_eq other f)) texts

pub once_kept : (texts : List Text) (y : Text) → list_any (λ other. bytes_eq other y) texts ≡ true
    → once_more texts y ≡ texts
once_kept texts y e = cond-true (among y texts) texts (texts ++ y ∷ []) e

pub once_new : (texts : List Text) (y : Text) → list_any (λ other. bytes_eq other y) texts ≡ false
    → once_more texts y ≡ texts ++ y ∷ []
once_new texts y e = cond-false (among y texts) texts (texts ++ y ∷ []) e

same_both : (x y : Text) → bytes_eq x y ≡ bytes_eq y x
same_both x y = of (same_text x y)
  where
    of : (x ≡ y) ⊎ (x ≢ y) → bytes_eq x y ≡ bytes_eq y x
    of (inl e) = ap (λ t. bytes_eq t y) e ∙ ap (bytes_eq y) (sym e)
    of (inr ne) = bytes_eq-other x y (λ e. ne (sym e)) ∙ sym (bytes_eq-other y x ne)

any_map : {A : Type 0} (f : A → Text) (k : A) (xs : List A)
    → list_any (λ x. bytes_eq (f k) (f x)) xs ≡ list_any (λ other. bytes_eq other (f k)) (map f xs)
any_map f k [] = refl
any_map f k (x ∷ xs) = (λ i. same_both (f k) (f x) i || any_map f k xs i)

-- A set of folders with one more.
pub set_more : {A : Type 0} (f : A → Text) (keys : List A) (k : A) (after : List A)
    → after ≡ (if list_any (λ x. bytes_eq (f k) (f x)) keys then keys else keys ++ k ∷ [])
    → map f after ≡ once_more (map f keys) (f k)
set_more {A = A} f keys k after is = ap (map f) is ∙ of (list_any (λ x. bytes_eq (f k) (f x)) keys) (any_map f k keys)
  where
    of : (b : Bool) → b ≡ list_any (λ other. bytes_eq other (f k)) (map f keys)
        → map f (if b then keys else keys ++ k ∷ []) ≡ once_more (map f keys) (f k)
    of true e = sym (once_kept (map f keys) (f k) (sym e))
    of false e = map-append f keys (k ∷ []) ∙ sym (once_new (map f keys) (f k) (sym e))

pub set_few : {A : Type 0} (keys : List A) (k : A) (b : Bool)
    → length (if b then keys else keys ++ k ∷ []) ≤ length keys + 1
set_few keys k true = omega arith
set_few keys k false = omega (arith, length-append keys (k ∷ []))

but-append : (f : Text) (xs ys : List Text) → but f (xs ++ ys) ≡ but f xs ++ but f ys
but-append f [] ys = refl
but-append f (x ∷ xs) ys = cases (not (bytes_eq x f)) (but-append f xs ys)
  where
    cases : (b : Bool) → but f (xs ++ ys) ≡ but f xs ++ but f ys
        → (if b then x ∷ but f (xs ++ ys) else but f (xs ++ ys)) ≡ (if b then x ∷ but f xs else but f xs) ++ but f ys
    cases true e = ap (λ t. x ∷ t) e
    cases false e = e

-- Another text is among them still.
among-but : (f y : Text) → f ≢ y → (xs : List Text) → among y (but f xs) ≡ among y xs
among-but f y ne [] = refl
among-but f y ne (x ∷ xs) = of (same_text x f) (among-but f y ne xs)
  where
    of : (x ≡ f) ⊎ (x ≢ f) → among y (but f xs) ≡ among y xs
        → among y (if not (bytes_eq x f) then x ∷ but f xs else but f xs) ≡ (bytes_eq x y || among y xs)
    of (inl e) rest =
        ap (λ b. among y (if not b then x ∷ but f xs else but f xs)) (ap (λ t. bytes_eq t f) e ∙ bytes_eq-same f) ∙ rest
        ∙ sym (ap (λ b. b || among y xs) (ap (λ t. bytes_eq t y) e ∙ bytes_eq-other f y (λ s. ne (sym s))))
    of (inr other) rest =
        ap (λ b. among y (if not b then x ∷ but f xs else but f xs)) (bytes_eq-other x f (λ s. other (sym s)))
        ∙ ap (λ b. bytes_eq x y || b) rest

pub each_once-more : (xs : List Text) (y : Text) → each_once (xs ++ y ∷ []) ≡ once_more (each_once xs) y
each_once-more [] y = refl
each_once-more (f ∷ xs) y = ap (λ t. f ∷ but f t) (each_once-more xs y) ∙ of (same_text f y)
  where
    kept : (f ≡ y) → but f (y ∷ []) ≡ []
    kept e = ap (λ b. if not b then y ∷ [] else []) (ap (λ t. bytes_eq t f) (sym e) ∙ bytes_eq-same f)

    same : f ≡ y → (b : Bool) → f ∷ but f (if b then each_once xs else each_once xs ++ y ∷ [])
        ≡ f ∷ but f (each_once xs)
    same e true = refl
    same e false = ap (λ t. f ∷ t) (but-append f (each_once xs) (y ∷ []) ∙ ap (λ t. but f (each_once xs) ++ t) (kept e)
        ∙ append-nil (but f (each_once xs)))

    other : f ≢ y → (b : Bool) → among y (each_once xs) ≡ b
        → f ∷ but f (if b then each_once xs else each_once xs ++ y ∷ []) ≡ once_more (f ∷ but f (each_once xs)) y
    other ne true a =
        sym (once_kept (f ∷ but f (each_once xs)) y
        (ap (λ b. b || among y (but f (each_once xs))) (bytes_eq-other f y (λ s. ne (sym s)))
        ∙ among-but f y ne (each_once xs) ∙ a))
    other ne false a =
        ap (λ t. f ∷ t)
        (but-append f (each_once xs) (y ∷ []) ∙ ap (λ b. but f (each_once xs) ++ (if not b then y ∷ [] else []))
        (bytes_eq-other y f ne))
        ∙ sym (once_new (f ∷ but f (each_once xs)) y
        (ap (λ b. b || among y (but f (each_once xs))) (bytes_eq-other f y (λ s. ne (sym s)))
        ∙ among-but f y ne (each_once xs) ∙ a))

    of : (f ≡ y) ⊎ (f ≢ y) → f ∷ but f (once_more (each_once xs) y) ≡ once_more (f ∷ but f (each_once xs)) y
    of (inl e) = same e (among y (each_once xs))
        ∙ sym (once_kept (f ∷ but f (each_once xs)) y
        (ap (λ b. b || among y (but f (each_once xs))) (ap (λ t. bytes_eq t y) e ∙ bytes_eq-same y)))
    of (inr ne) = other ne (among y (each_once xs)) refl

-- ---- the paths, one more
source_paths-more : (v from k n : ℕ) → n ≡ from + k
    → source_paths_from v from (suc k) ≡ source_paths_from v from k ++ source_path v n ∷ []
source_paths-more v from zero n is = ap (λ m. source_path v m ∷ []) (omega (arith, is))
source_paths-more v from (suc k) n is =
    ap (λ t. source_path v from ∷ t) (source_paths-more v (from + 1) k n (omega (arith, is)))

pub one_source_more : (v k : ℕ) → each_once (map folder_above (source_paths_from v 1 (k + 1)))
    ≡ once_more (each_once (map folder_above (source_paths_from v 1 k))) (folder_above (source_path v (k + 1)))
one_source_more v k =
    let next : k + 1 ≡ suc k = omega arith in
    ap (λ m. each_once (map folder_above (source_paths_from v 1 m))) next
    ∙ ap (λ t. each_once (map folder_above t)) (source_paths-more v 1 k (k + 1) (omega arith))
    ∙ ap each_once (map-append folder_above (source_paths_from v 1 k) (source_path v (k + 1) ∷ []))
    ∙ each_once-more (map folder_above (source_paths_from v 1 k)) (folder_above (source_path v (k + 1)))

pub one_tile_more : (v n : ℕ) (tiles : List Tile) (t : Tile)
    → each_once (map folder_above (paths_in v n (tiles ++ t ∷ [])))
    ≡ once_more (each_once (map folder_above (paths_in v n tiles))) (folder_above (path v t))
one_tile_more v n tiles t =
    ap (λ ps. each_once (map folder_above (source_paths_from v 1 n ++ ps))) (map-append (path v) tiles (t ∷ []))
    ∙ ap (λ ps. each_once (map folder_above ps))
    (sym (append_assoc (source_paths_from v 1 n) (map (path v) tiles) (path v t ∷ [])))
    ∙ ap each_once (map-append folder_above (paths_in v n tiles) (path v t ∷ []))
    ∙ each_once-more (map folder_above (paths_in v n tiles)) (folder_above (path v t))

pub take_more : {A : Type 0} (xs : List A) (i n : ℕ) (d : A) → n ≡ i + 1 → i < length xs → d ≡ get_or xs i d
    → take n xs ≡ take i xs ++ d ∷ []
take_more xs i zero d is l e = absurd (omega (arith, is))
take_more [] i (suc n) d is l e = absurd (omega (arith, l))
take_more (x ∷ xs) zero (suc zero) d is l e = ap (λ z. z ∷ []) (sym e)
take_more (x ∷ xs) zero (suc (suc n)) d is l e = absurd (omega (arith, is))
take_more (x ∷ xs) (suc i) (suc n) d is l e =
    ap (λ t. x ∷ t) (take_more xs i n d (omega (arith, is)) (omega (arith, l)) e)
