use Rattle.std.proofs.Common.{ap}
use Rattle.cdb_model.specs.Commands as said
use Rattle.cdb_model.specs.Events as machine
use Rattle.cdb_model.specs.Grammar.{sentence_in, inline_in, file_in}
use Rattle.cdb_model.specs.Stores.{store_kind}
use Rattle.cdb_model.specs.Transitions.{InlineLineIn, OpenLineIn, CloseLineIn, VersionsLineIn}
use Rattle.cdb_model.specs.declared.line.Line.{Line}
use Rattle.cdb_front.specs.AnswerMeanings.{meant}
use Rattle.cdb_front.specs.RunProgress.{Holds}
use Rattle.cdb_front.specs.Sourcing.{LoadsFrom}
use Rattle.cdb_front.proofs.Staying.{calls_turn, load_turn, stays_on, stays_told}
use Rattle.cdb_front.proofs.engine_calls.EngineStoreCalls.other.Goals as goal

pub returns-in-Inline-clause-turn : goal.returns-in-Inline-clause-turn
returns-in-Inline-clause-turn g c = λ w origin s stays.
    calls_turn (store_kind w) (Holds g.H.Shelf.tells (g.H.Shelf.files c.args.shelf.now)) c.args.line
    (machine.inline_line (inline_in c.in-Inline.words)) (meant c.give.result c.give.new.engine.reply)
    (ap (λ (x : Line). said.said (sentence_in x)) c.in-Inline.is)
    (stays_on g.D.Disk.tells g.D.Disk.clock g.D.Disk.fault_count g.D.Disk.since g.D.Disk.state origin c.args.disk.now
    c.args.self.now c.give.new.engine w s
    (InlineLineIn (store_kind w) s (inline_in c.in-Inline.words) (meant c.give.result c.give.new.engine.reply))
    stays (λ shows. c.give.ensures.gives w s shows))

pub returns-in-Source-clause-turn : goal.returns-in-Source-clause-turn
returns-in-Source-clause-turn g c = λ w origin s stays.
    load_turn (store_kind w) g.H.Shelf.tells (g.H.Shelf.files c.args.shelf.now) c.args.line (file_in c.in-Source.words)
    (meant c.load.result c.load.new.engine.reply)
    (ap (λ (x : Line). sentence_in x) c.in-Source.is)
    (stays_on g.D.Disk.tells g.D.Disk.clock g.D.Disk.fault_count g.D.Disk.since g.D.Disk.state origin c.args.disk.now
    c.args.self.now c.load.new.engine w s
    (LoadsFrom (store_kind w) g.H.Shelf.tells (g.H.Shelf.files c.args.shelf.now) s (file_in c.in-Source.words)
    (meant c.load.result c.load.new.engine.reply))
    stays (λ shows. c.load.ensures.loads w s shows))

pub returns-in-Publish-clause-turn : goal.returns-in-Publish-clause-turn
returns-in-Publish-clause-turn g c = λ w origin s stays.
    calls_turn (store_kind w) (Holds g.H.Shelf.tells (g.H.Shelf.files c.args.shelf.now))
    c.args.line machine.publish_line
    (meant c.publish.result c.publish.new.engine.reply)
    (ap (λ (x : Line). said.said (sentence_in x)) c.in-Publish.is)
    (c.publish.ensures.begins w origin s stays)

pub returns-in-Open-clause-turn : goal.returns-in-Open-clause-turn
returns-in-Open-clause-turn g c = λ w origin s stays.
    calls_turn (store_kind w) (Holds g.H.Shelf.tells (g.H.Shelf.files c.args.shelf.now)) c.args.line machine.open_line
    (meant c.connect.result c.connect.new.engine.reply)
    (ap (λ (x : Line). said.said (sentence_in x)) c.in-Open.is)
    (stays_on g.D.Disk.tells g.D.Disk.clock g.D.Disk.fault_count g.D.Disk.since g.D.Disk.state origin c.args.disk.now
    c.args.self.now c.connect.new.engine w s
    (OpenLineIn (store_kind w) s (meant c.connect.result c.connect.new.engine.reply))
    stays (λ shows. c.connect.ensures.connects w s shows))

pub returns-in-Tile-clause-turn : goal.returns-in-Tile-clause-turn
returns-in-Tile-clause-turn g c = λ w origin s stays.
    calls_turn (store_kind w) (Holds g.H.Shelf.tells (g.H.Shelf.files c.args.shelf.now)) c.args.line
    (machine.tile_line c.in-Tile.id c.in-Tile.tile) (meant c.ask.result c.ask.new.engine.reply)
    (ap (λ (x : Line). said.said (sentence_in x)) c.in-Tile.is)
    (c.ask.ensures.asks w origin s stays)

pub returns-in-Close-clause-turn : goal.returns-in-Close-clause-turn
returns-in-Close-clause-turn g c = λ w origin s stays.
    calls_turn (store_kind w) (Holds g.H.Shelf.tells (g.H.Shelf.files c.args.shelf.now)) c.args.line
    (machine.close_line c.in-Close.id) (meant c.disconnect.result c.disconnect.new.engine.reply)
    (ap (λ (x : Line). said.said (sentence_in x)) c.in-Close.is)
    (stays_on g.D.Disk.tells g.D.Disk.clock g.D.Disk.fault_count g.D.Disk.since g.D.Disk.state origin c.args.disk.now
    c.args.self.now c.disconnect.new.engine w s
    (CloseLineIn (store_kind w) s c.in-Close.id (meant c.disconnect.result c.disconnect.new.engine.reply))
    stays (λ shows. c.disconnect.ensures.disconnects w s shows))

pub returns-in-Versions-clause-turn : goal.returns-in-Versions-clause-turn
returns-in-Versions-clause-turn g c = λ w origin s stays.
    calls_turn (store_kind w) (Holds g.H.Shelf.tells (g.H.Shelf.files c.args.shelf.now))
    c.args.line machine.versions_line
    (meant c.tell.result c.args.self.now.reply)
    (ap (λ (x : Line). said.said (sentence_in x)) c.in-Versions.is)
    (stays_told g.D.Disk.tells g.D.Disk.clock g.D.Disk.fault_count g.D.Disk.since g.D.Disk.state origin c.args.disk.now
    c.args.self.now w s (VersionsLineIn (store_kind w) s (meant c.tell.result c.args.self.now.reply))
    stays (λ shows. c.tell.ensures.tells w s shows))
