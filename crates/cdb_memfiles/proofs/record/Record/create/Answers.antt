use Rattle.std.proofs.Common.{◌∙◌, ◌++◌, ◌∷◌, [], Some, ap}
use Rattle.cdb_memfiles.specs.declared.call.Call.TheVariants.{Create}
use Rattle.cdb_memfiles.proofs.FileLaws.{short-put}
use Rattle.cdb_memfiles.proofs.RecordLaws.{tied-create}
use Rattle.cdb_memfiles.proofs.record.Record.create.Goals as goal

pub invariant_of-self-2-clause-tied : goal.invariant_of-self-2-clause-tied
invariant_of-self-2-clause-tied c =
    tied-create c.args.self.now.files c.store.new.files c.args.self.now.calls.items c.push.new.calls.items
    c.args.path.now c.new.result.items c.args.self.now.tied
    (c.push.ensures ∙ ap (λ cs. cs ++ Create c.args.path.now ∷ []) c.in_ok-try_reserve.ensures.items)
    c.in_ok-store.ensures.ok c.new.ensures.items

pub invariant_of-self-2-clause-short : goal.invariant_of-self-2-clause-short
invariant_of-self-2-clause-short c =
    short-put c.args.self.now.files c.store.new.files c.args.path.now.bytes (Some c.new.result.items)
    c.args.self.now.short c.store.ensures.short c.in_ok-store.ensures.ok
