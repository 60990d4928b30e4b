-- How the images of a run of calls come from those of each call.
use Rattle.std.proofs.Common.{ℕ, ◌≤◌, ◌⊎◌, inl, inr, ◌∙◌, arith}
use Rattle.cdb_model.specs.Maps.{FileMap}
use Rattle.cdb_files.specs.Moments.{Elapses, Rests, AddsOnly}

-- Two calls in a row that only read.
pub rests_then : (a b c : ℕ) (past mid since : ℕ → FileMap → Type 0) → Rests a b past mid → Rests b c mid since
    → Rests a c past since
rests_then a b c past mid since one two = record {
  same = two.same ∙ one.same;
  nothing_else = λ t m h. one.nothing_else t m (two.nothing_else t m h);
  keeps = λ t m h. two.keeps t m (one.keeps t m h);
}

module _ {D : Type 0} (clock : D → ℕ) (since : D → ℕ → FileMap → Type 0) where
  -- No call yet.
  pub started : (d : D) (P : FileMap → Type 0) → AddsOnly clock since d d P
  started d P = record { later = omega arith; nothing_else = λ t m le h. inl h }

  -- One call more.
  pub goes_on : (a b c : D) (P Q : FileMap → Type 0) → AddsOnly clock since a b P
      → Elapses (clock b) (clock c) (since b) (since c) Q → ((m : FileMap) → Q m → P m) → AddsOnly clock since a c P
  goes_on a b c P Q run call each = record {
    later = omega (arith, run.later, call.later);
    nothing_else = λ t m le h. last t m le (call.nothing_else t m (omega (arith, le, run.later)) h);
  }
    where
      last : (t : ℕ) (m : FileMap) → t ≤ clock a → since b t m ⊎ Q m → since a t m ⊎ P m
      last t m le (inl h) = run.nothing_else t m le h
      last t m le (inr q) = inr (each m q)

  -- One call more that only reads.
  pub rests : (a b c : D) (P : FileMap → Type 0) → AddsOnly clock since a b P
      → Rests (clock b) (clock c) (since b) (since c) → AddsOnly clock since a c P
  rests a b c P run call = record {
    later = omega (arith, run.later, call.same);
    nothing_else = λ t m le h. run.nothing_else t m le (call.nothing_else t m h);
  }

  -- Two runs in a row.
  pub then_on : (a b c : D) (P : FileMap → Type 0) → AddsOnly clock since a b P → AddsOnly clock since b c P
      → AddsOnly clock since a c P
  then_on a b c P run more = record {
    later = omega (arith, run.later, more.later);
    nothing_else = λ t m le h. last t m le (more.nothing_else t m (omega (arith, le, run.later)) h);
  }
    where
      last : (t : ℕ) (m : FileMap) → t ≤ clock a → since b t m ⊎ P m → since a t m ⊎ P m
      last t m le (inl h) = run.nothing_else t m le h
      last t m le (inr p) = inr p

  -- The images are said to be of a wider kind.
  pub weaker : (a b : D) (P Q : FileMap → Type 0) → AddsOnly clock since a b P → ((m : FileMap) → P m → Q m)
      → AddsOnly clock since a b Q
  weaker a b P Q run wide = record {
    later = run.later;
    nothing_else = λ t m le h. of t m (run.nothing_else t m le h);
  }
    where
      of : (t : ℕ) (m : FileMap) → since a t m ⊎ P m → since a t m ⊎ Q m
      of t m (inl h) = inl h
      of t m (inr p) = inr (wide m p)
