use Rattle.std.proofs.Common.{◌∙◌, ◌++◌, ◌∷◌, [], ap}
use Rattle.cdb_memfiles.specs.declared.call.Call.TheVariants.{Remove}
use Rattle.cdb_memfiles.proofs.FileLaws.{short-less}
use Rattle.cdb_memfiles.proofs.RecordLaws.{tied-remove}
use Rattle.cdb_memfiles.proofs.record.Record.remove.Goals as goal

pub invariant_of-self-2-clause-tied : goal.invariant_of-self-2-clause-tied
invariant_of-self-2-clause-tied c =
    tied-remove c.args.self.now.files c.take.new.files c.args.self.now.calls.items c.push.new.calls.items
    c.args.path.now c.args.self.now.tied
    (c.push.ensures ∙ ap (λ cs. cs ++ Remove c.args.path.now ∷ []) c.in_ok-try_reserve.ensures.items)
    c.take.ensures.rest

pub invariant_of-self-2-clause-short : goal.invariant_of-self-2-clause-short
invariant_of-self-2-clause-short c =
    short-less c.args.self.now.files c.take.new.files c.args.path.now.bytes c.args.self.now.short c.take.ensures.rest
