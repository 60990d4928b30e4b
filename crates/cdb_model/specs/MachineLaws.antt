-- Laws of the machine's steps.
use Rattle.std.specs.Prelude.{◌≡◌, ◌⊎◌, ℕ, ◌+◌, ◌-◌, ◌≤◌, ◌<◌, Some, None}
use Rattle.cdb_model.specs.Events as machine
use Rattle.cdb_model.specs.Events.{Event, Answer}
use Rattle.cdb_model.specs.KnownStore.{KnownState, GivenUp, Step}
use Rattle.cdb_model.specs.Stores.{Kind, Which, store_kind}
use Rattle.cdb_model.specs.Transitions.{StateIn, GoingIn, GivenUpIn, MakesIn}

-- ---- one answer

-- the answers that no state and no event settle: memory is wanting, or a call of a device failed
abbrev pub IsUnsettled : Answer → Type 0
IsUnsettled machine.memory = Unit {0}
IsUnsettled machine.shelf = Unit {0}
IsUnsettled machine.fault = Unit {0}
IsUnsettled _ = ⊥

-- but for these, over a store whose publications are known a state and an event have one answer and one next state
abbrev pub OneAnswer : Type 0
OneAnswer = (s : KnownState) (e : Event) (a b : Answer) (t u : KnownState)
    → Step s e a t → Step s e b u → (IsUnsettled a → ⊥) → (IsUnsettled b → ⊥) → (a ≡ b) × (t ≡ u)

-- a failed call of the disk leaves the state, or was one of a step: the publication is given up and the writer halted
abbrev pub FreeLeaves : KnownState → Answer → KnownState → Type 0
FreeLeaves s machine.fault t = (t ≡ s) ⊎ GivenUp s t
FreeLeaves s a t = t ≡ s

-- the other free answers leave the state
abbrev pub FreeAnswers : Type 0
FreeAnswers = (s : KnownState) (e : Event) (a : Answer) (t : KnownState) → Step s e a t → IsUnsettled a
    → FreeLeaves s a t

-- ---- many steps

module _ (k : Kind) where
  -- a publication goes on, with so many steps fewer left
  pub record GoesOnIn (count : ℕ) (old new : StateIn k) : Type 0 where
    pub now : GoingIn k
    pub going : old.going ≡ Some now
    pub running : old.halted ≡ None
    pub some : 0 < count
    pub more : count < now.left
    pub next : new ≡ record old { going = Some record { publication = now.publication; left = now.left - count } }

  -- a publication, of which at most so many steps were left, is the newest
  pub record EndsIn (count : ℕ) (old : StateIn k) (version : ℕ) (new : StateIn k) : Type 0 where
    pub now : GoingIn k
    pub going : old.going ≡ Some now
    pub running : old.halted ≡ None
    pub some : 0 < now.left
    pub few : now.left ≤ count
    pub version_is : version ≡ k.versions old.list + 1
    pub next : new ≡ record old { list = k.add old.list now.publication; going = None }

  -- What becomes of a publication of which at most so many steps are made, by the answer: nothing, where none are to be
  -- made or none is going; it goes on where more are left; it is the newest where no more are left; it is given up.
  abbrev pub AreMadeIn : ℕ → StateIn k → Answer → StateIn k → Type 0
  AreMadeIn count old machine.going new = (((count ≡ 0) ⊎ (old.going ≡ None)) × (new ≡ old)) ⊎ GoesOnIn count old new
  AreMadeIn count old (machine.published version) new = EndsIn count old version new
  AreMadeIn count old machine.fault new = GivenUpIn k old new
  AreMadeIn count old (machine.damaged expected found) new = k.Maybe (GivenUpIn k old new)
  AreMadeIn count old _ new = ⊥

-- the same for a store whose publications are known, and for any store
abbrev pub ManySteps : Type 0
ManySteps = (w : Which) (count : ℕ) (old : StateIn (store_kind w)) (answer : Answer) (new : StateIn (store_kind w))
    → MakesIn (store_kind w) count old answer new → AreMadeIn (store_kind w) count old answer new
