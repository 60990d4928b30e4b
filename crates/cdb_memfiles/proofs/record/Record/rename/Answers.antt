use Rattle.std.proofs.Common.{◌∙◌, ◌++◌, ◌∷◌, [], ap}
use Rattle.cdb_memfiles.specs.Files.{content}
use Rattle.cdb_memfiles.specs.declared.call.Call.TheVariants.{Rename}
use Rattle.cdb_memfiles.proofs.FileLaws.{short-moved}
use Rattle.cdb_memfiles.proofs.RecordLaws.{tied-rename}
use Rattle.cdb_memfiles.proofs.record.Record.rename.Goals as goal

pub invariant_of-self-2-clause-tied : goal.invariant_of-self-2-clause-tied
invariant_of-self-2-clause-tied c =
    tied-rename c.args.self.now.files c.move_file.new.files c.args.self.now.calls.items c.push.new.calls.items
    c.args.from.now c.args.to.now c.args.self.now.tied
    (c.push.ensures ∙ ap (λ cs. cs ++ Rename c.args.from.now c.args.to.now ∷ []) c.in_ok-try_reserve.ensures.items)
    c.in_ok-move_file.ensures.ok

pub invariant_of-self-2-clause-short : goal.invariant_of-self-2-clause-short
invariant_of-self-2-clause-short c =
    short-moved c.args.self.now.files c.move_file.new.files c.args.from.now.bytes c.args.to.now.bytes
    (content c.args.self.now.files c.args.from.now.bytes)
    c.args.self.now.short c.move_file.ensures.short c.in_ok-move_file.ensures.ok
