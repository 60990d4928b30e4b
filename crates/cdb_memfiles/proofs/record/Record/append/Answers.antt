use Rattle.std.proofs.Common.{◌∙◌, ◌++◌, ◌∷◌, [], ap, sym, subst}
use Rattle.cdb_model.specs.Maps.{IsThere, Content}
use Rattle.cdb_files.specs.Disk.{with_piece}
use Rattle.cdb_memfiles.specs.Files.{content}
use Rattle.cdb_memfiles.specs.declared.call.Call.TheVariants.{Append}
use Rattle.cdb_memfiles.proofs.FileLaws.{short-put}
use Rattle.cdb_memfiles.proofs.RecordLaws.{tied-append}
use Rattle.cdb_memfiles.proofs.record.Record.append.Goals as goal

pub invariant_of-self-2-clause-tied : goal.invariant_of-self-2-clause-tied
invariant_of-self-2-clause-tied c =
    tied-append c.args.self.now.files c.extend.new.files c.args.self.now.calls.items c.push.new.calls.items
    c.args.path.now c.args.piece.now c.in_ok-bytes.bytes c.args.self.now.tied
    (c.push.ensures ∙ ap (λ cs. cs ++ Append c.args.path.now c.in_ok-bytes.bytes ∷ [])
    c.in_ok-try_reserve.ensures.items) c.in_ok-extend.ensures.ok c.in_ok-bytes.ensures

pub invariant_of-self-2-clause-short : goal.invariant_of-self-2-clause-short
invariant_of-self-2-clause-short c =
    let p = c.args.path.now.bytes in
    let there : IsThere (content c.args.self.now.files p) = let P : Content → Type 0 = IsThere in
    subst P (sym (c.args.self.now.tied p)) c.requires in
    short-put c.args.self.now.files c.extend.new.files p (with_piece c.args.piece.now (content c.args.self.now.files p))
    c.args.self.now.short
    (c.args.self.now.short p there) c.in_ok-extend.ensures.ok

pub returns-clause-ok : goal.returns-clause-ok
returns-clause-ok c = (
  c.in_ok-bytes.bytes,
  c.in_ok-bytes.ensures,
  c.push.ensures
      ∙ ap (λ cs. cs ++ Append c.args.path.now c.in_ok-bytes.bytes ∷ []) c.in_ok-try_reserve.ensures.items,
)
