use Rattle.std.proofs.Common.{◌∙◌, ap, None}
use Rattle.cdb_memfiles.specs.Standing.{Shown, shown, shown_by, never_named}
use Rattle.cdb_memfiles.proofs.StandingLaws.{shown-again}
use Rattle.cdb_memfiles.proofs.standings.remove.Goals as goal

pub returns : goal.returns
returns c =
    let p = c.args.path.now.bytes in let old = shown c.args.table.now in
    shown-again old (shown c.take-standing.new.table) (shown c.store.new.table) p never_named
    (shown_by c.replace.result) (None, (old p).1)
    c.take-standing.ensures.rest c.in_ok-store.ensures
    (c.replace.ensures ∙ ap (λ (x : Shown). let y : Shown = (None, x.1) in y) c.take-standing.ensures.value)
