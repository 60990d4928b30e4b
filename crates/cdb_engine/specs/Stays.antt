-- An engine over any disk: it follows a state of a store that is known, or has what a state of any store has.
use Rattle.std.specs.Prelude.{◌≡◌, ℕ, length}
use Rattle.std.specs.Option.{option_map, is_some}
use Rattle.cdb_model.specs.Maps.{FileMap}
use Rattle.cdb_model.specs.Stores.{Which, known, any, store_kind, any_store}
use Rattle.cdb_model.specs.Transitions.{StateIn, GoingIn}
use Rattle.cdb_files.specs.Disk as disk
use Rattle.cdb_publish.specs.Entries.{entries_in}
use Rattle.cdb_publish.specs.Going.{left_of}
use Rattle.cdb_publish.specs.declared.publication.Publication as publish
use Rattle.cdb_engine.specs.Held.{Held}
use Rattle.cdb_engine.specs.Tracks.{Origin, Follows}

-- ---- what an engine has, whatever its disk holds

abbrev pub going_of : publish.Publication → GoingIn any_store
going_of work = record { publication = work.files; left = left_of work }

abbrev pub bare_of : Held → StateIn any_store
bare_of held = record {
  list = record { versions = length held.chain.records; entries = entries_in held.chain.records };
  pending = held.pending;
  going = option_map going_of held.work;
  halted = option_map (λ faults. tt) held.halted;
  sessions = held.sessions;
  opened = held.opened;
}

-- ---- known or any

abbrev pub StaysBy : {D : Type 0} → Type 0 → (D → ℕ) → (D → ℕ) → (D → ℕ → FileMap → Type 0) → (D → disk.State) → Origin
    → D → Held → (w : Which) → StateIn (store_kind w) → Type 0
StaysBy tells clock count since state origin d held known s =
    Follows tells origin (clock d) (count d) (since d) (state d) held s
StaysBy tells clock count since state origin d held any s = s ≡ bare_of held

pub record Stays {D : Type 0} (tells : Type 0) (clock count : D → ℕ) (since : D → ℕ → FileMap → Type 0)
    (state : D → disk.State) (origin : Origin) (d : D) (held : Held) (w : Which) (s : StateIn (store_kind w))
    : Type 0 where
  pub is : StaysBy tells clock count since state origin d held w s

-- ---- calls that name no disk

-- a state has what an engine is seen to have
pub record Shows (held : Held) (w : Which) (s : StateIn (store_kind w)) : Type 0 where
  pub pending : held.pending ≡ s.pending
  pub going : is_some held.work ≡ is_some s.going
  pub halted : is_some held.halted ≡ is_some s.halted
  pub sessions : held.sessions ≡ s.sessions
  pub opened : held.opened ≡ s.opened
  pub versions : length held.chain.records ≡ (store_kind w).versions s.list

-- an engine and a state have changed alike, in their pending sources and their sessions alone
pub record ChangesAlike (old new : Held) (w : Which) (s t : StateIn (store_kind w)) : Type 0 where
  pub engine : new ≡ record old { pending = new.pending; sessions = new.sessions; opened = new.opened }
  pub state : t ≡ record s { pending = new.pending; sessions = new.sessions; opened = new.opened }
