-- The tiles that a run over a store serves, by the publications that their sessions answer from.
use Rattle.std.specs.Prelude.{◌≡◌, ℕ, List, [], ◌∷◌, Some}
use Rattle.cdb_grid.specs.declared.tile.Tile.{Tile}
use Rattle.cdb_source.specs.Reached.{Reached}
use Rattle.cdb_source.specs.declared.source.Source.{Source}
use Rattle.cdb_model.specs.Commands as said
use Rattle.cdb_model.specs.Commands.{Command}
use Rattle.cdb_model.specs.Events as machine
use Rattle.cdb_model.specs.Events.{Answer}
use Rattle.cdb_model.specs.Grammar as grammar
use Rattle.cdb_model.specs.Images.{Base}
use Rattle.cdb_model.specs.KnownStore.{KnownState, start_at}
use Rattle.cdb_model.specs.Maps.{Content}
use Rattle.cdb_model.specs.Names.{name}
use Rattle.cdb_model.specs.Publications.{sources_up_to, heads_of}
use Rattle.cdb_model.specs.Runs.{Item, Run, line, late}
use Rattle.cdb_model.specs.Sessions.{session_of}
use Rattle.cdb_model.specs.Text.{Text}
use Rattle.cdb_model.specs.TileFile.{tile_bytes}
use Rattle.cdb_model.specs.declared.session.Session.{Session}
use Rattle.cdb_front.specs.Headline.{Devices, Life, ReadsScript}
use Rattle.cdb_front.specs.RunProgress.{Holds}

-- a line asks for a tile in an open session, and this holds of the tile and of the sources of the publications up to
-- the session's version
pub record AsksFor (s : KnownState) (command : Command) (P : List Source → Tile → Type 0) : Type 0 where
  pub id : ℕ
  pub tile : Tile
  pub session : Session
  pub asked : command ≡ said.said (grammar.tile id (name tile))
  pub is_open : session_of id s.sessions ≡ Some session
  pub holds : P (sources_up_to session.version s.list) tile

-- a tile that is answered has the bytes of a build from nothing of these sources, one of which reaches it; none does
-- where it is missing
abbrev pub IsServed : KnownState → Command → Answer → Type 0
IsServed s command (machine.tile bytes) =
    AsksFor s command (λ sources tile. Reached (heads_of sources) tile × (bytes ≡ tile_bytes sources tile))
IsServed s command machine.missing = AsksFor s command (λ sources tile. Reached (heads_of sources) tile → ⊥)
IsServed s command answer = Unit {0}

-- so it is with each line of a run
abbrev pub EachServed : (Has : Text → Content → Type 0) (old : KnownState) (items : List Item) (answers : List Answer)
    (new : KnownState) → Run Has old items answers new → Type 0
EachServed Has old [] answers new run = Unit {0}
EachServed Has old (line command ∷ items) answers new run =
    IsServed old command run.passes.answer × EachServed Has run.mid items run.later new run.rest
EachServed Has old (late most ∷ items) answers new run = EachServed Has run.mid items run.later new run.rest

-- each tile that a run over a store serves
abbrev pub ServesTiles : Devices → Type 0
ServesTiles v = (life : Life v) (base : Base) (goes : ReadsScript v life (Some base))
    → EachServed (Holds v.shelf_tells (v.files life.shelf)) (start_at base.list)
    goes.outcome.transcript.items goes.outcome.transcript.answers goes.outcome.run.state goes.outcome.run.run
