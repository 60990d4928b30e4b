-- What an engine over a disk is seen as.
use Rattle.std.specs.Prelude.{◌≡◌, ℕ, ◌+◌, ◌≤◌, ◌<◌, List, length, Option, None, IfSome, IsSome}
use Rattle.cdb_source.specs.declared.source.Source.{Source}
use Rattle.cdb_model.specs.declared.session.Session.{Session}
use Rattle.cdb_chain.specs.Versions.{Versions}
use Rattle.cdb_publish.specs.Going.{left_of}
use Rattle.cdb_publish.specs.declared.publication.Publication.{Publication}
use Rattle.cdb_sessions.specs.Cache.{Kept}
use Rattle.cdb_sessions.specs.Sessions.{Sessions}

-- the records of its versions and the room for a further one, the publication that it works on, the sources that are
-- pending, the open sessions and how many were opened, the count of the disk's failed calls at which it was halted, the
-- tiles' files that it keeps, and the bytes of the last request for a tile
pub record Held : Type 0 where
  pub chain : Versions
  pub work : Option Publication
  pub pending : List Source
  pub sessions : List Session
  pub opened : ℕ
  pub halted : Option ℕ
  pub kept : List Kept
  pub reply : List ℕ

abbrev pub held_of : Versions → Option Publication → List Source → Sessions → Option ℕ → Held
held_of chain work pending sessions halted = record {
  chain = chain;
  work = work;
  pending = pending;
  sessions = sessions.list;
  opened = sessions.opened;
  halted = halted;
  kept = sessions.kept;
  reply = sessions.reply;
}

-- the sessions of an engine, with the files that it keeps
abbrev pub sessions_part : Held → Sessions
sessions_part held =
    record { list = held.sessions; opened = held.opened; kept = held.kept; reply = held.reply }

-- ---- what holds of any engine

-- a publication that is going has steps left, makes the next version, and finds room for its record
pub record CanStep (chain : Versions) (work : Publication) : Type 0 where
  pub left : 0 < left_of work
  pub next : work.version ≡ length chain.records + 1
  pub room : work.files < chain.spare

-- at most 64 sources are pending, and an engine that is halted works on nothing
pub record IsEngine (chain : Versions) (work : Option Publication) (pending : List Source) (halted : Option ℕ)
    : Type 0 where
  pub can_step : IfSome work (CanStep chain)
  pub few : length pending ≤ 64
  pub idle : IsSome halted → work ≡ None
