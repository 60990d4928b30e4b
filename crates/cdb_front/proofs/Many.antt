-- Any number of stops and reopenings.
use Rattle.std.proofs.Common.{◌≡◌, ℕ, ◌⊎◌, inl, inr, List, [], ◌∷◌, ◌++◌, Option, Some, Contains, refl, ap, sym, ◌∙◌}
use Rattle.std.proofs.Common.{subst, append-nil}
use Rattle.std.proofs.lemmas.List.Elements.{Contains-append_left, Contains-append_right}
use mathlib.Core.Path.{fun_ext}
use Rattle.cdb_model.specs.Publications.{Publication}
use Rattle.cdb_model.specs.Maps.{FileMap}
use Rattle.cdb_model.specs.Stands.{Stands}
use Rattle.cdb_files.specs.Disk as disk
use Rattle.cdb_files.specs.Disk.{IsImage}
use Rattle.cdb_crash.specs.Crash.{IsWhole}
use Rattle.cdb_model.specs.Begun.{acknowledged}
use Rattle.cdb_model.specs.Images.{StandsFrom, StandsKept, StandsForOne, StandsSince}
use Rattle.cdb_engine.specs.Filling.{StandsButLast, with_all, but_last}
use Rattle.cdb_engine.proofs.OpenStays.{from_none}
use Rattle.cdb_front.specs.Checking.{ChecksStore}
use Rattle.cdb_front.specs.Generating.{FillsStore, StandsMade}
use Rattle.cdb_front.specs.OverStore.{EndsOver, in_opening, behind_opening}
use Rattle.cdb_front.specs.RunOutcome.{EndsWith, StandsAtExit}
use Rattle.cdb_front.specs.Headline.{Devices, Life, Task, script, check, fill, Knows, GoesBy, Goes, Meets, IsOnly}
use Rattle.cdb_front.specs.Headline.{StopLeaves, amid, at_end, whole_for, begun_in, where_done, acked_in, acked}
use Rattle.cdb_front.specs.Headline.{LeavesAcknowledged, FollowStops, WasAcked, KeepsPublications, Headline}
use Rattle.cdb_front.specs.declared.exit_status.Status.{Status}
use Rattle.cdb_front.specs.declared.exit_status.Status.TheVariants.{Done, Memory, Usage, InputFault, OutputFault}
use Rattle.cdb_front.specs.declared.exit_status.Status.TheVariants.{StoreFault, NotAStore, TooLong, Differs, Refused}
use Rattle.cdb_front.specs.declared.exit_status.Status.TheVariants.{Damaged}
use Rattle.cdb_front.proofs.Checking.{ends_as}

-- a store that nothing else may be left of
no_early : (aim : Status) (list : List Publication) (moment : ℕ) (begun kept : List Publication) (m : FileMap)
    → StandsAtExit aim (record { list = list; early = []; moment = moment }) begun kept m → StandsKept list begun kept m
no_early Done list moment begun kept m s = s
no_early Memory list moment begun kept m (inl s) = s
no_early Memory list moment begun kept m (inr e) = absurd e
no_early Usage list moment begun kept m (inl s) = s
no_early Usage list moment begun kept m (inr e) = absurd e
no_early (NotAStore version place) list moment begun kept m (inl s) = s
no_early (NotAStore version place) list moment begun kept m (inr e) = absurd e
no_early InputFault list moment begun kept m s = s
no_early OutputFault list moment begun kept m s = s
no_early StoreFault list moment begun kept m (inl s) = s
no_early StoreFault list moment begun kept m (inr e) = absurd e
no_early TooLong list moment begun kept m s = s
no_early (Differs path) list moment begun kept m s = s
no_early (Refused limit) list moment begun kept m s = s
no_early (Damaged expected found) list moment begun kept m s = s

since_early : (list : List Publication) (moment : ℕ) (begun : List Publication) (m : FileMap)
    → StandsSince (record { list = list; early = []; moment = moment }) begun m → StandsFrom list begun m
since_early list moment begun m (inl s) = s
since_early list moment begun m (inr e) = absurd e

-- what a run over a store leaves: its publications begun, and among them those that are to be kept
record Leaves (v : Devices) (life : Life v) (opened begun kept : List Publication) : Type 0 where
  pub since : (m : FileMap) → v.since life.new (v.clock life.old) m → StandsFrom opened begun m
  pub at_exit : (m : FileMap) → IsImage (v.state life.new) m → StandsKept opened begun kept m

kept_none : (list begun kept : List Publication) (m : FileMap) → kept ≡ [] → StandsFrom list begun m
    → StandsKept list begun kept m
kept_none list begun kept m none s = record {
  first = s.first;
  later = s.later;
  more = s.first;
  joined = s.joined;
  holds = sym (ap (λ (l : List Publication). l ++ s.first) none);
  stands = s.stands;
}

kept_all : (list begun : List Publication) (m : FileMap) → Stands m (list ++ begun) → StandsKept list begun begun m
kept_all list begun m stands = record {
  first = begun;
  later = [];
  more = [];
  joined = sym (append-nil begun);
  holds = sym (append-nil begun);
  stands = stands;
}

one_alone : (list : List Publication) (m : FileMap) → StandsForOne (list ∷ []) m → Stands m list
one_alone list m (inl s) = s
one_alone list m (inr e) = absurd e

-- ---- a check

check_leaves : (v : Devices) (life : Life v) (opened : List Publication)
    → Knows v life (Some (whole_for v opened life)) → GoesBy v life (Some (whole_for v opened life)) check
    → Leaves v life opened [] []
check_leaves v life opened knows goes = record {
  since = λ m was. from_none opened [] m (one_alone opened m (store.since_entry m was));
  at_exit = λ m image. kept_none opened [] [] m refl (from_none opened [] m (exit m image store.over));
}
  where
    store : ChecksStore v.state v.clock v.since (whole_for v opened life) life.old life.new (v.written life.output)
        goes.mid goes.status
    store = goes.store (whole_for v opened life) knows

    exit : (m : FileMap) → IsImage (v.state life.new) m
        → EndsOver v.clock v.since (whole_for v opened life) life.old life.new [] (λ m. Stands m opened)
        (λ m. Stands m opened) (IsImage (v.state life.new)) goes.status
        → Stands m opened
    exit m image (in_opening closed none left) = one_alone opened m (left m image)
    exit m image (behind_opening within left) = left m image

-- ---- publications of the generator

from_all : (list begun : List Publication) (m : FileMap) → Stands m (list ++ begun) → StandsFrom list begun m
from_all list begun m stands = record { first = begun; later = []; joined = sym (append-nil begun); stands = stands }

from_but_last : (list begun : List Publication) (m : FileMap) → StandsButLast list begun m → StandsFrom list begun m
from_but_last list begun m (with_all stands) = from_all list begun m stands
from_but_last list begun m (but_last first last joined stands) =
    record { first = first; later = last ∷ []; joined = joined; stands = stands }

-- a run that is done has made all
done_all : (inner result : Status) (old new : Option (List ℕ)) (list begun : List Publication) (m : FileMap)
    → EndsWith inner old new result → StandsMade inner list begun m → StandsKept list begun (where_done result begun) m
done_all inner result old new list begun m ends stands = by (ends_as inner result old new ends)
  where
    any_from : (s : Status) → StandsMade s list begun m → StandsFrom list begun m
    any_from Done stands = from_all list begun m stands
    any_from OutputFault stands = from_all list begun m stands
    any_from Memory stands = from_but_last list begun m stands
    any_from Usage stands = from_but_last list begun m stands
    any_from InputFault stands = from_but_last list begun m stands
    any_from StoreFault stands = from_but_last list begun m stands
    any_from (NotAStore version place) stands = from_but_last list begun m stands
    any_from TooLong stands = from_but_last list begun m stands
    any_from (Differs path) stands = from_but_last list begun m stands
    any_from (Refused limit) stands = from_but_last list begun m stands
    any_from (Damaged expected found) stands = from_but_last list begun m stands

    whole : (s : Status) → StandsMade s list begun m → StandsKept list begun (where_done s begun) m
    whole Done stands = kept_all list begun m stands
    whole OutputFault stands = kept_none list begun [] m refl (any_from OutputFault stands)
    whole Memory stands = kept_none list begun [] m refl (any_from Memory stands)
    whole Usage stands = kept_none list begun [] m refl (any_from Usage stands)
    whole InputFault stands = kept_none list begun [] m refl (any_from InputFault stands)
    whole StoreFault stands = kept_none list begun [] m refl (any_from StoreFault stands)
    whole (NotAStore version place) stands = kept_none list begun [] m refl (any_from (NotAStore version place) stands)
    whole TooLong stands = kept_none list begun [] m refl (any_from TooLong stands)
    whole (Differs path) stands = kept_none list begun [] m refl (any_from (Differs path) stands)
    whole (Refused limit) stands = kept_none list begun [] m refl (any_from (Refused limit) stands)
    whole (Damaged expected found) stands = kept_none list begun [] m refl (any_from (Damaged expected found) stands)

    by : (result ≡ inner) ⊎ (result ≡ OutputFault) → StandsKept list begun (where_done result begun) m
    by (inl e) = subst (λ (s : Status). StandsKept list begun (where_done s begun) m) (sym e) (whole inner stands)
    by (inr e) = subst (λ (s : Status). StandsKept list begun (where_done s begun) m) (sym e)
        (kept_none list begun [] m refl (any_from inner stands))

pub done_none : (result : Status) (begun : List Publication) → begun ≡ [] → where_done result begun ≡ []
done_none Done begun none = none
done_none Memory begun none = refl
done_none Usage begun none = refl
done_none InputFault begun none = refl
done_none OutputFault begun none = refl
done_none StoreFault begun none = refl
done_none (NotAStore version place) begun none = refl
done_none TooLong begun none = refl
done_none (Differs path) begun none = refl
done_none (Refused limit) begun none = refl
done_none (Damaged expected found) begun none = refl

fill_leaves : (v : Devices) (life : Life v) (opened : List Publication) (start count : ℕ)
    (knows : Knows v life (Some (whole_for v opened life)))
    (goes : GoesBy v life (Some (whole_for v opened life)) (fill start count))
    → Leaves v life opened ((goes.store (whole_for v opened life) knows).begun)
    (where_done life.status ((goes.store (whole_for v opened life) knows).begun))
fill_leaves v life opened start count knows goes = record {
  since = λ m was. since_early opened (v.clock life.old) store.begun m (store.generates.since m was);
  at_exit = λ m image. exit m image store.over;
}
  where
    store : FillsStore v.state v.clock v.since (whole_for v opened life) start count life.old life.new
        (v.written life.output) goes.mid goes.status
    store = goes.store (whole_for v opened life) knows

    exit : (m : FileMap) → IsImage (v.state life.new) m
        → EndsOver v.clock v.since (whole_for v opened life) life.old life.new store.begun
        (StandsFrom opened store.begun)
        (StandsMade goes.status opened store.begun) (IsImage (v.state life.new)) goes.status
        → StandsKept opened store.begun (where_done life.status store.begun) m
    exit m image (in_opening closed none left) =
        kept_none opened store.begun (where_done life.status store.begun) m (done_none life.status store.begun none)
        (from_none opened store.begun m (one_alone opened m (left m image)))
    exit m image (behind_opening within left) =
        done_all goes.status life.status goes.mid (v.written life.output') opened store.begun m goes.ends (left m image)

-- ---- a run of any mode

leaves : (v : Devices) (life : Life v) (opened : List Publication) (task : Task)
    (knows : Knows v life (Some (whole_for v opened life))) (goes : GoesBy v life (Some (whole_for v opened life)) task)
    → Leaves v life opened (begun_in v life (whole_for v opened life) task knows goes)
    (acked_in v life (whole_for v opened life) task knows goes)
leaves v life opened (script most) knows goes = record {
  since = λ m was. since_early opened (v.clock life.old) goes.outcome.run.begun m (goes.outcome.run.since m was);
  at_exit = λ m image. no_early goes.outcome.status opened (v.clock life.old) goes.outcome.run.begun
      (acknowledged goes.outcome.run.begun goes.outcome.transcript.answers goes.outcome.transcript.wrote) m
      (goes.outcome.run.at_exit m image);
}
leaves v life opened check knows goes = check_leaves v life opened knows goes
leaves v life opened (fill start count) knows goes = fill_leaves v life opened start count knows goes

-- the list that the map stands for that a stop left
record Added (v : Devices) (life : Life v) (m : FileMap) (stop : StopLeaves v life m)
    (opened : List Publication) : Type 0 where
  pub now : List Publication
  pub adds : LeavesAcknowledged v life m stop opened now
  pub stands : Stands m now

added : (v : Devices) (life : Life v) (m : FileMap) (stop : StopLeaves v life m) (opened : List Publication)
    → Knows v life (Some (whole_for v opened life)) → Goes v life (Some (whole_for v opened life))
    → Added v life m stop opened
added v life m (amid since) opened knows goes =
    let s = (leaves v life opened life.task knows goes).since m since in
    record {
      now = opened ++ s.first;
      adds = record {
        knows = knows;
        goes = goes;
        first = s.first;
        later = s.later;
        joined = s.joined;
        more = s.first;
        holds = refl;
        now_is = refl;
      };
      stands = s.stands;
    }
added v life m (at_end image) opened knows goes =
    let s = (leaves v life opened life.task knows goes).at_exit m image in
    record {
      now = opened ++ s.first;
      adds = record {
        knows = knows;
        goes = goes;
        first = s.first;
        later = s.later;
        joined = s.joined;
        more = s.more;
        holds = s.holds;
        now_is = refl;
      };
      stands = s.stands;
    }

-- a disk on which nothing else is possible is whole
pub only_whole : (list : List Publication) (m : FileMap) (d : disk.State) → Stands m list → IsOnly m d
    → IsWhole Stands list d
only_whole list m d stands o =
    record {
      clear = record { gone = λ k few q under gone v a. o.only q v a ∙ sym (o.present q) ∙ gone };
      stands = λ n image. subst (λ (t : FileMap). Stands t list) (sym (fun_ext (λ q. o.only q (n q) (image q)))) stands;
    }

-- one run more
next : (v : Devices) (list : List Publication) (last life : Life v) (earlier : List (Life v))
    (follow : FollowStops v list last (life ∷ earlier)) → v.disk_tells → Meets v last
    → (before : KeepsPublications v list life earlier follow.1)
    → Added v life follow.0.m follow.0.stop before.now → KeepsPublications v list last (life ∷ earlier) follow
next v list last life earlier follow told meets before a =
    record {
      now = a.now;
      opens = record { opened = before.now; before = before.opens; adds = a.adds };
      every = every;
      store = store;
      goes = meets (Some (whole_for v a.now last)) record { told = told; now = refl; store = store };
    }
  where
    store : IsWhole Stands a.now (v.state last.old)
    store = only_whole a.now follow.0.m (v.state last.old) a.stands follow.0.only

    had : List Publication
    had = acked v life follow.0.m before.now follow.0.stop a.adds.knows a.adds.goes

    every : (x : Publication) → Contains (acked v life follow.0.m before.now follow.0.stop a.adds.knows a.adds.goes) x
        ⊎ WasAcked v list life earlier follow.1 before.now before.opens x → Contains a.now x
    every x (inl c) =
        subst (λ (l : List Publication). Contains l x) (sym a.adds.now_is)
        (Contains-append_right before.now a.adds.first x
        (subst (λ (l : List Publication). Contains l x) (sym a.adds.holds) (Contains-append_left had a.adds.more x c)))
    every x (inr w) = subst (λ (l : List Publication). Contains l x) (sym a.adds.now_is)
        (Contains-append_left before.now a.adds.first x (before.every x w))

pub many : (v : Devices) → Headline v
many v told list last [] follow meets =
    record {
      now = list;
      opens = refl;
      every = λ x a. absurd a;
      store = follow;
      goes = meets (Some (whole_for v list last)) record { told = told; now = refl; store = follow };
    }
many v told list last (life ∷ earlier) follow meets =
    let before = many v told list life earlier follow.1 meets.1 in
    next v list last life earlier follow told meets.0 before
    (added v life follow.0.m follow.0.stop before.now
    record { told = told; now = refl; store = before.store } before.goes)
