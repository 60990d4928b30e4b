-- A step that is refused.
use Rattle.std.proofs.Common.{◌≡◌, Option, None, Some, IsSome, true, refl}
use Rattle.std.specs.Option.{is_some}
use Rattle.cdb_model.specs.Events as machine
use Rattle.cdb_model.specs.Stores.{Which, store_kind}
use Rattle.cdb_model.specs.Transitions.{StateIn, IsIdleIn, IsBusyIn}
use Rattle.cdb_engine.specs.Held.{Held}
use Rattle.cdb_engine.specs.StoreAnswers.{TriesIn}
use Rattle.cdb_engine.specs.Stays.{Shows}

pub none_as : {A B : Type 0} (a : Option A) (b : Option B) → is_some a ≡ is_some b → a ≡ None → b ≡ None
none_as a None same none = refl
none_as {A = A} {B = B} a (Some y) same none = of a same none
  where
    of : (a : Option A) → is_some a ≡ true → a ≡ None → Some y ≡ None
    of None e n = cc
    of (Some x) e n = cc

pub some_as : {A B : Type 0} (a : Option A) (b : Option B) → is_some a ≡ is_some b → IsSome a → IsSome b
some_as {B = B} None b same some = cc
some_as (Some x) None same some = cc
some_as (Some x) (Some y) same some = refl

pub some_there : {A : Type 0} (a : Option A) → true ≡ is_some a → IsSome a
some_there None e = cc
some_there (Some x) e = refl

-- nothing is going where nothing is worked on, and so on
pub idle_as : (held : Held) (w : Which) (s : StateIn (store_kind w)) → Shows held w s → held.halted ≡ None
    → held.work ≡ None → IsIdleIn (store_kind w) s
idle_as held w s shows running idle =
    record {
      running = none_as held.halted s.halted shows.halted running;
      idle = none_as held.work s.going shows.going idle;
    }

pub busy_as : (held : Held) (w : Which) (s : StateIn (store_kind w)) → Shows held w s → held.halted ≡ None
    → IsSome held.work → IsBusyIn (store_kind w) s
busy_as held w s shows running busy =
    record {
      running = none_as held.halted s.halted shows.halted running;
      busy = some_as held.work s.going shows.going busy;
    }

pub halted_as : (held : Held) (w : Which) (s : StateIn (store_kind w)) → Shows held w s → IsSome held.halted
    → IsSome s.halted
halted_as held w s shows halted = some_as held.halted s.halted shows.halted halted

-- one step is tried
pub tries_halted : (held : Held) (w : Which) (s : StateIn (store_kind w)) → Shows held w s → IsSome held.halted
    → held.work ≡ None → TriesIn (store_kind w) s machine.halted s
tries_halted held w s shows halted idle =
    (halted_as held w s shows halted, none_as held.work s.going shows.going idle, refl)

pub tries_nothing : (held : Held) (w : Which) (s : StateIn (store_kind w)) → Shows held w s → held.halted ≡ None
    → held.work ≡ None → TriesIn (store_kind w) s machine.nothing s
tries_nothing held w s shows running idle = (idle_as held w s shows running idle, refl)
