-- Where a run over a store ended, in opening it or behind that, and what a crash may leave of the store since then.
use Rattle.std.specs.Prelude.{◌≡◌, ℕ, ◌≤◌, List, [], ◌∷◌, Some}
use Rattle.cdb_model.specs.Images.{Base, StandsForOne}
use Rattle.cdb_model.specs.Maps.{FileMap}
use Rattle.cdb_model.specs.Publications.{Publication}
use Rattle.cdb_front.specs.Beginning.{OpensBy}
use Rattle.cdb_front.specs.RunOutcome.{HasNoStore}
use Rattle.cdb_front.specs.declared.exit_status.Status.{Status}

-- the store was opened at a moment of the run: what a crash may have left between the beginning and that moment stands
-- for the list, or for one of the early ones; for whatever it may have left since then, Later holds
pub record OpensWithin {D : Type 0} (clock : D → ℕ) (since : D → ℕ → FileMap → Type 0) (base : Base) (old new : D)
    (Later : FileMap → Type 0) : Type 0 where
  pub mid : D
  pub opening : OpensBy clock since (Some base) old mid
  pub earlier : clock mid ≤ clock new
  pub later : (m : FileMap) → since new (clock mid) m → Later m

-- the run ended in opening: nothing was begun, and what a crash leaves stands for the list, or for one of the early
-- ones; or it ended behind that, and AtExit holds for what a crash leaves
pub data EndsOver {D : Type 0} (clock : D → ℕ) (since : D → ℕ → FileMap → Type 0) (base : Base) (old new : D)
    (begun : List Publication) (Later AtExit Left : FileMap → Type 0) (status : Status) : Type 0 where
  in_opening : HasNoStore status → begun ≡ []
      → ((m : FileMap) → Left m → StandsForOne (base.list ∷ base.early) m)
      → EndsOver clock since base old new begun Later AtExit Left status
  behind_opening : OpensWithin clock since base old new Later → ((m : FileMap) → Left m → AtExit m)
      → EndsOver clock since base old new begun Later AtExit Left status
