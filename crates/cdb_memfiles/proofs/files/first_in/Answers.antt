use Rattle.std.proofs.Common.{◌≡◌, ◌∙◌, ap, sym, true, false, nat_eq}
use Rattle.std.specs.List.{starts_with}
use Rattle.std.proofs.lemmas.Str.Pattern.{starts_text}
use Rattle.cdb_memfiles.proofs.FileLaws.{none_so_long, none_from, first_from, none_first}
use Rattle.cdb_memfiles.proofs.files.first_in.Goals as goal

pub returns-in_err-prefix : goal.returns-in_err-prefix
returns-in_err-prefix c =
    rw c.from_residual.ensures
    (none_so_long c.args.files.now c.args.folder.now.bytes c.requires c.in_err-prefix.ensures)

pub returns-in_err-path : goal.returns-in_err-path
returns-in_err-path c =
    rw c.from_residual-in_err-path.ensures
    (none_from c.args.files.now c.in_ok-prefix.prefix c.args.folder.now.bytes c.in_ok-prefix.ensures
    ((c.range.ensures.in_range tt).5 c.in_err-path.ensures.steps.0))

pub returns-then-starts_with : goal.returns-then-starts_with
returns-then-starts_with c =
    let all = c.range.ensures.in_range tt in
    let e = c.in_ok-path.ensures.steps in
    let entry = rw e at all.1 in
    let begins : starts_with nat_eq c.in_ok-path.path.now.bytes c.in_ok-prefix.prefix.bytes ≡ true =
    ap (λ p. starts_with nat_eq c.in_ok-path.path.now.bytes p) (sym c.as_str-2.ensures.value)
    ∙ ap (λ p. starts_with nat_eq p c.as_str-2.result.now) (sym c.as_str.ensures.value)
    ∙ sym (starts_text c.starts_with.result c.as_str-2.result.now c.as_str.result.now c.starts_with.ensures.cases)
    ∙ c.if-starts_with.true in
    first_from c.args.files.now c.in_ok-prefix.prefix c.in_ok-path.path.now c.in_ok-path.field-0-1.now
    c.args.folder.now.bytes c.in_ok-prefix.ensures
    entry.1 begins (λ q inside there. rw e at (all.2 q inside there))

pub returns-else-starts_with : goal.returns-else-starts_with
returns-else-starts_with c =
    let all = c.range.ensures.in_range tt in
    let e = c.in_ok-path.ensures.steps in
    let entry = rw e at all.1 in
    let apart : starts_with nat_eq c.in_ok-path.path.now.bytes c.in_ok-prefix.prefix.bytes ≡ false =
    ap (λ p. starts_with nat_eq c.in_ok-path.path.now.bytes p) (sym c.as_str-2.ensures.value)
    ∙ ap (λ p. starts_with nat_eq p c.as_str-2.result.now) (sym c.as_str.ensures.value)
    ∙ sym (starts_text c.starts_with.result c.as_str-2.result.now c.as_str.result.now c.starts_with.ensures.cases)
    ∙ c.if-starts_with.false in
    none_first c.args.files.now c.in_ok-prefix.prefix c.in_ok-path.path.now c.args.folder.now.bytes
    c.in_ok-prefix.ensures
    entry.0.0 apart (λ q inside there. rw e at (all.2 q inside there))
