use Rattle.std.proofs.Common.{◌∙◌, ◌++◌, ◌∷◌, [], ap}
use Rattle.cdb_memfiles.proofs.RecordLaws.{tied-note}
use Rattle.cdb_memfiles.proofs.record.Record.note.Goals as goal

pub invariant_of-self-2-clause-tied : goal.invariant_of-self-2-clause-tied
invariant_of-self-2-clause-tied c =
    tied-note c.args.self.now.files c.args.self.now.calls.items c.push.new.calls.items c.args.call c.args.self.now.tied
    (c.push.ensures ∙ ap (λ cs. cs ++ c.args.call ∷ []) c.in_ok-try_reserve.ensures.items) c.requires
