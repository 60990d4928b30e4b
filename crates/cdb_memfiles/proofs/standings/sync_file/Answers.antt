use Rattle.std.proofs.Common.{◌∙◌, ap}
use Rattle.cdb_memfiles.specs.Standing.{Shown, shown, shown_by, never_named, synced_first}
use Rattle.cdb_memfiles.proofs.StandingLaws.{shown-again}
use Rattle.cdb_memfiles.proofs.standings.sync_file.Goals as goal

pub returns : goal.returns
returns c =
    let p = c.args.path.now.bytes in let old = shown c.args.table.now in
    shown-again old (shown c.take-standing.new.table) (shown c.store.new.table) p never_named (shown_by c.sync.new.self)
    ((old p).0, synced_first (old p).1)
    c.take-standing.ensures.rest c.in_ok-store.ensures
    (c.sync.ensures ∙ ap (λ (x : Shown). let y : Shown = (x.0, synced_first x.1) in y) c.take-standing.ensures.value)
