-- The frames of a pool, as they are taken one after another.
use Rattle.std.proofs.Common.{◌≡◌, ℕ, zero, suc, ◌+◌, ◌-◌, ◌<◌, Bool, true, false, List, [], ◌∷◌, ◌++◌}
use Rattle.std.proofs.Common.{replicate, slice_get, slice_set, Some, refl, sym, ap, ◌∙◌, subst, arith}
use Rattle.std.proofs.Common.{inl, inr, add-one}
use Rattle.std.proofs.lemmas.Bool.{cases_lt}
use Rattle.cdb_pool.specs.Frames.{Frames, IsFirstFree, AllOut, with_out}
use Rattle.cdb_pool.specs.declared.frame.Frame.{Frame}
use Rattle.cdb_sessions.specs.Cache.{flags, frame_of, numbered_frames}
use Rattle.cdb_sessions.specs.inside.Cache.{with_flags}

front : (n k : ℕ) (ys : List Bool) → k < n → slice_get (replicate n true ++ ys) k ≡ Some true
front zero k ys lt = absurd (omega arith)
front (suc n) zero ys lt = refl
front (suc n) (suc k) ys lt = front n k ys (omega arith)

middle : (n : ℕ) (ys : List Bool) → slice_get (replicate n true ++ false ∷ ys) n ≡ Some false
middle zero ys = refl
middle (suc n) ys = middle n ys

set_middle : (n : ℕ) (ys : List Bool) → slice_set (replicate n true ++ false ∷ ys) n true ≡ replicate (suc n) true ++ ys
set_middle zero ys = refl
set_middle (suc n) ys = ap (λ l. true ∷ l) (set_middle n ys)

split_flags : (n : ℕ) → n < 8 → flags n ≡ replicate n true ++ false ∷ replicate (7 - n) false
split_flags n lt = ap (λ m. replicate n true ++ replicate m false) (let e : 8 - n ≡ suc (7 - n) = omega arith in e)

free_flag : (n : ℕ) → n < 8 → slice_get (flags n) n ≡ Some false
free_flag n lt = ap (λ l. slice_get l n) (split_flags n lt) ∙ middle n (replicate (7 - n) false)

pub never_out : (p pool : Frames ℕ) (n : ℕ) → n < 8 → p ≡ with_flags pool n → AllOut p → ⊥
never_out p pool n lt e all = subst (λ (q : Frames ℕ). AllOut q) e all n (free_flag n lt)

first_is : (n k : ℕ) → n < 8 → slice_get (flags n) k ≡ Some false
    → ((j : ℕ) → j < k → slice_get (flags n) j ≡ Some false → ⊥) → k ≡ n
first_is n k lt free none = elim (cases_lt k n) [
  | inl below ↦ let out : slice_get (flags n) k ≡ Some true = front n k (replicate (8 - n) false) below in absurd cc
  | inr above ↦ elim (cases_lt n k) [
    | inl below ↦ absurd (none n below (free_flag n lt))
    | inr least ↦ omega arith
  ]
]

-- one frame more
pub record Taken (p pool : Frames ℕ) (n k : ℕ) : Type 0 where
  pub number : k ≡ n
  pub after : with_out p k true ≡ with_flags pool (n + 1)

pub taken : (p pool : Frames ℕ) (n k : ℕ) → n < 8 → p ≡ with_flags pool n → IsFirstFree p k → Taken p pool n k
taken p pool n k lt e first =
    let f = subst (λ (q : Frames ℕ). IsFirstFree q k) e first in
    let is = first_is n k lt f.0 f.1 in
    let set : slice_set (flags n) n true ≡ flags (n + 1) =
    ap (λ l. slice_set l n true) (split_flags n lt) ∙ set_middle n (replicate (7 - n) false)
    ∙ ap (λ m. replicate (suc n) true ++ replicate m false) (let d : 7 - n ≡ 8 - (n + 1) = omega arith in d)
    ∙ ap (λ m. replicate m true ++ replicate (8 - (n + 1)) false) (sym (add-one n)) in
    record {
      number = is;
      after = ap (λ (q : Frames ℕ). with_out q k true) e ∙ ap (λ j. with_out (with_flags pool n) j true) is
          ∙ ap (λ (out : List Bool). let q : Frames ℕ = record pool { out = out } in q) set;
    }

pub more_numbered : (frames : List Frame) (frame : Frame) (n k : ℕ) → frames ≡ numbered_frames n
    → frame.number ≡ k → k ≡ n
    → frames ++ frame ∷ [] ≡ numbered_frames (n + 1)
more_numbered frames frame n k e f is =
    ap (λ l. l ++ frame ∷ []) e ∙ ap (λ j. numbered_frames n ++ frame_of j ∷ []) (f ∙ is)
    ∙ ap numbered_frames (sym (add-one n))
