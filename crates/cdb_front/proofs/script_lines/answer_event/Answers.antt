use Rattle.std.proofs.Common.{[], ◌∷◌, sym, subst, ℕ, ap, ◌∙◌}
use Rattle.cdb_model.specs.Runs as run
use Rattle.cdb_model.specs.Runs.{Item, due}
use Rattle.cdb_front.proofs.RunProgress.{both_told, first_torn}
use Rattle.cdb_front.specs.RunProgress.{origin_of}
use Rattle.cdb_front.specs.inside.RunProgress.{TellsFed}
use Rattle.cdb_front.proofs.script_lines.answer_event.Goals as goal

pub returns-in-More-clause-told : goal.returns-in-More-clause-told
returns-in-More-clause-told g c = λ e items command says same most told.
    let same_due = c.due-steps.ensures command says ∙ ap (λ (n : ℕ). due n command) (sym most) in
    subst (λ (n : ℕ). TellsFed g.H.Shelf.tells e c.trail.result items (run.line command ∷ run.late n ∷ [])
    (g.O.Output.written c.trail.new.output) (g.H.Shelf.fault_count c.reply.new.shelf)
    (g.D.Disk.fault_count c.trail.new.disk)
    (g.E.StoreCalls.stays c.trail.new.engine c.trail.new.disk (origin_of e))) same_due
    (both_told (run.line command) (run.late c.due-steps.result) c.trail.result (g.O.Output.written c.trail.new.output)
    (g.H.Shelf.fault_count c.reply.new.shelf) (g.D.Disk.fault_count c.trail.new.disk)
    {Mid = g.E.StoreCalls.stays c.reply.new.engine c.reply.new.disk (origin_of e)}
    (g.E.StoreCalls.stays c.trail.new.engine c.trail.new.disk (origin_of e))
    told (c.in-More.ensures.spoken e command says same) (c.trail.ensures.spoken e))

pub returns-in-Quit-clause-told : goal.returns-in-Quit-clause-told
returns-in-Quit-clause-told g c = λ e items command says same most told. c.in-Quit.ensures.spoken e command says same

pub returns-in-Failed-clause-told : goal.returns-in-Failed-clause-told
returns-in-Failed-clause-told g c = λ e items command says same most told.
    first_torn (run.line command) (run.late (due e.most command)) told (c.in-Failed.ensures.spoken e command says same)
