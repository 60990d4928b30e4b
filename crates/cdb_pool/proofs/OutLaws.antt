-- A frame that is taken is out, lies in the block, and is none of those that were out.
use Rattle.std.proofs.Common.{◌≡◌, ◌≢◌, ℕ, zero, suc, Bool, true, false, List, [], ◌∷◌, slice_get, slice_set, Some, refl, sym, ap, ◌∙◌, arith, subst}
use Rattle.cdb_pool.specs.Frames.{Frames, IsWholeBlock, IsFirstFree, IsLent, with_out}
use Rattle.cdb_pool.specs.Laws.{TakesAnother}
use Rattle.cdb_pool.proofs.Ranges.{lies}

set_here : (out : List Bool) (k : ℕ) (u v : Bool) → slice_get out k ≡ Some u → slice_get (slice_set out k v) k ≡ Some v
set_here [] k u v e = cc
set_here (x ∷ out) zero u v e = refl
set_here (x ∷ out) (suc k) u v e = set_here out k u v e

set_other : (out : List Bool) (k j : ℕ) (v : Bool) → j ≢ k → slice_get (slice_set out k v) j ≡ slice_get out j
set_other [] k j v other = refl
set_other (x ∷ out) zero zero v other = absurd (other refl)
set_other (x ∷ out) zero (suc j) v other = refl
set_other (x ∷ out) (suc k) zero v other = refl
set_other (x ∷ out) (suc k) (suc j) v other = set_other out k j v (λ e. other (ap suc e))

differs : (out : List Bool) (k j : ℕ) → slice_get out k ≡ Some false → slice_get out j ≡ Some true → j ≢ k
differs out k j free there e = let both : slice_get out k ≡ Some true =
    subst (λ i. slice_get out i ≡ Some true) e there in let no : Some false ≡ Some true = sym free ∙ both in cc

pub takes_another : {T : Type 0} (p : Frames T) (k : ℕ) → IsFirstFree p k → TakesAnother p k (with_out p k true)
takes_another p k first = record {
  out = set_here p.out k false true first.0;
  others =
      λ j there. (set_other p.out k j true (differs p.out k j first.0 there) ∙ there, differs p.out k j first.0 there);
}

pub is_ready : {T : Type 0} (p : Frames T) (k : ℕ) → IsWholeBlock p.items p.frame_length p.out → IsFirstFree p k
    → IsLent (with_out p k true) k p.frame_length
is_ready p k whole first = record {
  out = set_here p.out k false true first.0;
  within = (lies p.items p.frame_length p.out k whole first.0).within;
  long = omega arith;
}
