use Rattle.std.proofs.Common.{◌∙◌, ◌++◌, ◌∷◌, [], Some, ap}
use Rattle.cdb_memfiles.specs.declared.call.Call.TheVariants.{Restore}
use Rattle.cdb_memfiles.proofs.FileLaws.{short-put}
use Rattle.cdb_memfiles.proofs.RecordLaws.{tied-restore}
use Rattle.cdb_memfiles.proofs.record.Record.restore.Goals as goal

pub invariant_of-self-2-clause-tied : goal.invariant_of-self-2-clause-tied
invariant_of-self-2-clause-tied c =
    tied-restore c.args.self.now.files c.store.new.files c.args.self.now.calls.items c.push.new.calls.items
    c.args.path.now c.args.bytes.items c.in_ok-kept.kept c.args.self.now.tied
    (c.push.ensures ∙ ap (λ cs. cs ++ Restore c.args.path.now c.in_ok-kept.kept ∷ []) c.in_ok-try_reserve.ensures.items)
    c.in_ok-store.ensures.ok
    (c.in_ok-kept.ensures ∙ c.as_slice.ensures.value)

pub invariant_of-self-2-clause-short : goal.invariant_of-self-2-clause-short
invariant_of-self-2-clause-short c =
    short-put c.args.self.now.files c.store.new.files c.args.path.now.bytes (Some c.args.bytes.items)
    c.args.self.now.short c.store.ensures.short c.in_ok-store.ensures.ok

pub returns-clause-ok : goal.returns-clause-ok
returns-clause-ok c = (
  c.in_ok-kept.kept,
  c.in_ok-kept.ensures ∙ c.as_slice.ensures.value,
  c.push.ensures ∙ ap (λ cs. cs ++ Restore c.args.path.now c.in_ok-kept.kept ∷ []) c.in_ok-try_reserve.ensures.items,
)
