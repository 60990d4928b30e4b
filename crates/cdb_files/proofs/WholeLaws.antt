-- Runs of calls that change one path alone.
use Rattle.std.proofs.Common.{◌≡◌, ℕ, Result, Ok, Err, OnErr, subst}
use Rattle.cdb_model.specs.Maps.{Text, FileMap}
use Rattle.cdb_files.specs.Disk.{State, Allows, Fails}
use Rattle.cdb_files.specs.Moments.{IsBetween, Elapses}
use Rattle.cdb_files.specs.Whole.{ChangesOnly, WritesOnly, IsImageBut}
use Rattle.cdb_files.proofs.StateLaws.{same-only, then-only, between-but, equal-only, fails-only}
use Rattle.cdb_files.proofs.MomentLaws.{started, goes_on, then_on, weaker}

-- What holds in any case holds of an error.
pub of_err : {T E : Type 0} (r : Result T E) (Q : Type 0) → Q → OnErr r Q
of_err (Ok v) Q holds = tt
of_err (Err e) Q holds = holds

module _ {D : Type 0} (clock : D → ℕ) (since : D → ℕ → FileMap → Type 0) (state : D → State) (path : Text) where
  -- No call yet.
  pub begun : (d : D) → WritesOnly clock since state path d d
  begun d = record { only = same-only path (state d); time = started clock since d (IsImageBut path (state d)) }

  -- One call more, which would lead to the state `after`.
  pub onward : (a b c : D) (after : State) → WritesOnly clock since state path a b → ChangesOnly path (state b) after
      → Elapses (clock b) (clock c) (since b) (since c) (IsBetween (state b) after)
      → ChangesOnly path (state b) (state c)
      → WritesOnly clock since state path a c
  onward a b c after run call time only = record {
    only = then-only path (state a) (state b) (state c) run.only only;
    time = goes_on clock since a b c (IsImageBut path (state a)) (IsBetween (state b) after) run.time time
        (λ m. between-but path (state a) (state b) after m run.only call);
  }

  -- One call more that answered Ok.
  pub onward_ok : (a b c : D) (after : State) → WritesOnly clock since state path a b → ChangesOnly path (state b) after
      → Elapses (clock b) (clock c) (since b) (since c) (IsBetween (state b) after) → state c ≡ after
      → WritesOnly clock since state path a c
  onward_ok a b c after run call time ok =
      onward a b c after run call time (equal-only path (state b) after (state c) call ok)

  -- One call more that failed.
  pub onward_err : (a b c : D) (after : State) → WritesOnly clock since state path a b
      → ChangesOnly path (state b) after
      → Elapses (clock b) (clock c) (since b) (since c) (IsBetween (state b) after) → Fails (state b) after (state c)
      → WritesOnly clock since state path a c
  onward_err a b c after run call time err =
      onward a b c after run call time (fails-only path (state b) after (state c) call err)

  -- A run more.
  pub further : (a b c : D) → WritesOnly clock since state path a b → WritesOnly clock since state path b c
      → WritesOnly clock since state path a c
  further a b c run more = record {
    only = then-only path (state a) (state b) (state c) run.only more.only;
    time = then_on clock since a b c (IsImageBut path (state a)) run.time
        (weaker clock since b c (IsImageBut path (state b)) (IsImageBut path (state a)) more.time
        (λ m but q ne. subst (λ p. Allows p (m q)) (run.only.may q ne) (but q ne)));
  }
