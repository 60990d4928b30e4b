use Rattle.std.proofs.Common.{◌≡◌, ◌∙◌, ap}
use Rattle.cdb_model.specs.Maps.{Content, put}
use Rattle.cdb_memfiles.specs.Standing.{Shown, shown, shown_by, never_named}
use Rattle.cdb_memfiles.proofs.StandingLaws.{shown-again, put-between}
use Rattle.cdb_memfiles.proofs.standings.rename.Goals as goal

pub returns : goal.returns
returns c =
    let from = c.args.from.now.bytes in let to = c.args.to.now.bytes in let old = shown c.args.table.now in
    let one = shown c.take-now.new.table in let two = shown c.take-standing.new.table in
    let z : Shown = ((old from).0, (put old from never_named to).1) in
    let is : shown_by c.replace.result ≡ z =
    c.replace.ensures
    ∙ ap (λ (v : Content). let y : Shown = (v, (shown_by c.take-standing.result).1) in y)
    (ap (λ x. x.0) c.take-now.ensures.value)
    ∙ ap (λ (x : Shown). let y : Shown = ((old from).0, x.1) in y)
    (c.take-standing.ensures.value ∙ ap (λ m. m to) c.take-now.ensures.rest) in
    let moved : shown c.store.new.table ≡ put one to z =
    shown-again one two (shown c.store.new.table) to never_named (shown_by c.replace.result)
    z c.take-standing.ensures.rest c.in_ok-store.ensures is in
    c.take.ensures.rest ∙ ap (λ m. put m from never_named) (moved ∙ ap (λ m. put m to z) c.take-now.ensures.rest)
    ∙ put-between old from to never_named never_named z
