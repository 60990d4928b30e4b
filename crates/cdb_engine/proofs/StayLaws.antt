-- What an engine and a state share, and what calls without a disk keep of it.
use Rattle.std.proofs.Common.{◌≡◌, ℕ, List, Option, None, Some, refl, ap, sym, ◌∙◌, subst}
use Rattle.std.specs.Option.{option_map, is_some}
use Rattle.cdb_model.specs.KnownStore.{KnownState, Going}
use Rattle.cdb_model.specs.Maps.{FileMap}
use Rattle.cdb_model.specs.Publications.{Publication}
use Rattle.cdb_model.specs.Stores.{Which, known, any, store_kind, any_store, known_store}
use Rattle.cdb_model.specs.Transitions.{StateIn}
use Rattle.cdb_files.specs.Disk as disk
use Rattle.cdb_chain.specs.Versions.{Versions}
use Rattle.cdb_publish.specs.declared.publication.Publication as publish
use Rattle.cdb_engine.specs.Held.{Held}
use Rattle.cdb_engine.specs.StoreAnswers.{LeftIn, steps_left}
use Rattle.cdb_engine.specs.Stays.{bare_of, going_of, Stays, Shows, ChangesAlike}
use Rattle.cdb_engine.specs.Tracks.{Works, Tracks, Origin, Follows, Leads}

some_mapped : {A B : Type 0} (f : A → B) (o : Option A) → is_some o ≡ is_some (option_map f o)
some_mapped f None = refl
some_mapped f (Some x) = refl

-- the publication that is going, and the halt, are there in both
pub record SameWork (now : Option Going) (given_up : Option Publication) (work : Option publish.Publication)
    (halt : Option ℕ) : Type 0 where
  pub going : is_some work ≡ is_some now
  pub halted : is_some halt ≡ is_some given_up
  pub left : LeftIn known_store now (steps_left work)

pub same_work : (list : List Publication) (going : Option Going) (given_up : Option Publication)
    (work : Option publish.Publication) (halted : Option ℕ) (chain : Versions) (d : disk.State)
    → Works list going given_up work halted chain d → SameWork going given_up work halted
same_work list None None None None chain d w = record { going = refl; halted = refl; left = refl }
same_work list (Some now) None (Some work) None chain d w = record { going = refl; halted = refl; left = w.left }
same_work list None (Some x) None (Some faults) chain d w = record { going = refl; halted = refl; left = refl }
same_work list _ _ _ _ chain d w = absurd w

pub tracks_shows : (held : Held) (d : disk.State) (s : KnownState) → Tracks held d s → Shows held known s
tracks_shows held d s t =
    let same = same_work s.list s.going s.halted held.work held.halted held.chain d t.works in
    record {
      pending = t.pending;
      going = same.going;
      halted = same.halted;
      sessions = t.sessions;
      opened = t.opened;
      versions = t.records.count;
    }

pub bare_shows : (held : Held) → Shows held any (bare_of held)
bare_shows held = record {
  pending = refl;
  going = some_mapped going_of held.work;
  halted = some_mapped (λ (faults : ℕ). tt) held.halted;
  sessions = refl;
  opened = refl;
  versions = refl;
}

module _ {D : Type 0} (tells : Type 0) (clock count : D → ℕ) (since : D → ℕ → FileMap → Type 0)
    (state : D → disk.State) (origin : Origin) (d : D) where
  abbrev pub StaysHere : Held → (w : Which) → StateIn (store_kind w) → Type 0
  StaysHere held w s = Stays tells clock count since state origin d held w s

  pub stays_shows : (held : Held) (w : Which) (s : StateIn (store_kind w)) → StaysHere held w s → Shows held w s
  stays_shows held known s stays = tracks_shows held (state d) s stays.is.tracks
  stays_shows held any s stays = subst (λ (t : StateIn any_store). Shows held any t) (sym stays.is) (bare_shows held)

  pub stays_left : (held : Held) (w : Which) (s : StateIn (store_kind w)) → StaysHere held w s
      → LeftIn (store_kind w) s.going (steps_left held.work)
  stays_left held known s stays =
      (same_work s.list s.going s.halted held.work held.halted held.chain (state d) stays.is.tracks.works).left
  stays_left held any s stays =
      subst (λ (t : StateIn any_store). LeftIn any_store t.going (steps_left held.work)) (sym stays.is) (here held.work)
    where
      here : (work : Option publish.Publication) → LeftIn any_store (option_map going_of work) (steps_left work)
      here None = refl
      here (Some work) = refl

  alike_known : (old new : Held) (s t : KnownState)
      → Follows tells origin (clock d) (count d) (since d) (state d) old s → ChangesAlike old new known s t
      → Follows tells origin (clock d) (count d) (since d) (state d) new t
  alike_known old new s t f change =
      subst (λ (u : KnownState). Follows tells origin (clock d) (count d) (since d) (state d) new u) (sym change.state)
      (subst (λ (h : Held). Follows tells origin (clock d) (count d) (since d) (state d) h
      (record s { pending = new.pending; sessions = new.sessions; opened = new.opened })) (sym change.engine)
      record {
        told = f.told;
        opened_after = f.opened_after;
        earlier = f.earlier;
        no_fewer = f.no_fewer;
        begun = f.begun;
        has_begun = record {
          complete = f.has_begun.complete;
          list_is = f.has_begun.list_is;
          begun_is = f.has_begun.begun_is;
        };
        tracks = record {
          records = f.tracks.records;
          pending = refl;
          sessions = refl;
          opened = refl;
          works = f.tracks.works;
          kept = f.tracks.kept;
        };
        images = f.images;
        later_images = f.later_images;
        halt = f.halt;
      })

  pub stays_alike : (old new : Held) (w : Which) (s t : StateIn (store_kind w)) → StaysHere old w s
      → ChangesAlike old new w s t → StaysHere new w t
  stays_alike old new known s t stays change = record { is = alike_known old new s t stays.is change }
  stays_alike old new any s t stays change = record {
    is = change.state
        ∙ ap (λ (u : StateIn any_store). record u
        { pending = new.pending; sessions = new.sessions; opened = new.opened }) stays.is
        ∙ sym (ap bare_of change.engine);
  }

-- a call of a known store and of any
module _ {D : Type 0} (tells : Type 0) (clock count : D → ℕ) (since : D → ℕ → FileMap → Type 0)
    (state : D → disk.State) (old new : D) (held held' : Held)
    (Step : (w : Which) → StateIn (store_kind w) → StateIn (store_kind w) → Type 0) where
  pub both : ((origin : Origin) (s : KnownState)
      → Follows tells origin (clock old) (count old) (since old) (state old) held s
      → Leads (Step known s) (Follows tells origin (clock new) (count new) (since new) (state new) held'))
      → Step any (bare_of held) (bare_of held')
      → (w : Which) (origin : Origin) (s : StateIn (store_kind w))
      → Stays tells clock count since state origin old held w s
      → Leads (Step w s) (Stays tells clock count since state origin new held' w)
  both follows bare known origin s stays = let l = follows origin s stays.is in
      record { next = l.next; step = l.step; now = record { is = l.now } }
  both follows bare any origin s stays = record {
    next = bare_of held';
    step = subst (λ (t : StateIn any_store). Step any t (bare_of held')) (sym stays.is) bare;
    now = record { is = refl };
  }
