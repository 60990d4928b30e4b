use Rattle.std.proofs.Common.{◌≡◌, Some, rules, ap, sym, ◌∙◌, arith}
use Rattle.std.proofs.lemmas.Str.Pattern.{strip_suffix_char}
use Rattle.cdb_model.specs.Records.{head_file_text}
use Rattle.cdb_manifest.proofs.HeadFileLaws.{is_text, no_text, parsed}
use Rattle.cdb_manifest.proofs.head_file.read_head.Goals as goal
use Rattle.cdb_manifest.proofs.head_file.read_head.Goals.{then-n-lt1-via-then-n-lt1, then-n-lt1-via-else-n-lt1+then-n-gt-MOST_VERSIONS}

pub returns-in_err-text-clause-only : goal.returns-in_err-text-clause-only
returns-in_err-text-clause-only c = λ n least most e.
    absurd (no_text _ _ _ c.from_utf8.result c.from_utf8.ensures.cases c.in_err-text.ensures.value
    (rw e (is_text n most)))

pub returns-in_err-n-clause-only : goal.returns-in_err-n-clause-only
returns-in_err-n-clause-only c = λ n least most e.
    let same : c.in_ok-text.text.now ≡ c.args.bytes.now = search rules in
    let front = strip_suffix_char 10 c.in_ok-text.text.now (Some c.in_ok-strip_suffix.field-0)
    c.in_ok-strip_suffix.ensures.cases (omega arith) in
    let read = parsed c.in_ok-strip_suffix.field-0.now n c.parse.result most (sym front ∙ same ∙ e)
    c.parse.ensures.value.0 in
    absurd (cc (read, c.in_err-n.ensures.value))

pub returns-then-n-lt1-clause-only : goal.returns-then-n-lt1-clause-only
returns-then-n-lt1-clause-only c = λ n least most e.
    let same : c.in_ok-text.text.now ≡ c.args.bytes.now = search rules in
    let front = strip_suffix_char 10 c.in_ok-text.text.now (Some c.in_ok-strip_suffix.field-0)
    c.in_ok-strip_suffix.ensures.cases (omega arith) in
    let read = parsed c.in_ok-strip_suffix.field-0.now n c.parse.result most (sym front ∙ same ∙ e)
    c.parse.ensures.value.0 in
    let is : c.in_ok-n.n ≡ n = cc (read, c.in_ok-n.ensures.value) in
    elim c.then-n-lt1.branch [
      | then-n-lt1-via-then-n-lt1 w ↦ absurd (omega (arith, is, w.if-n-lt1.true))
      | then-n-lt1-via-else-n-lt1+then-n-gt-MOST_VERSIONS w ↦ absurd
          (omega (arith, is, w.if-n-gt-MOST_VERSIONS.true))
    ]

pub returns-then-ne-clause-only : goal.returns-then-ne-clause-only
returns-then-ne-clause-only c = λ n least most e.
    let same : c.in_ok-text.text.now ≡ c.args.bytes.now = search rules in
    let front = strip_suffix_char 10 c.in_ok-text.text.now (Some c.in_ok-strip_suffix.field-0)
    c.in_ok-strip_suffix.ensures.cases (omega arith) in
    let read = parsed c.in_ok-strip_suffix.field-0.now n c.parse.result most (sym front ∙ same ∙ e)
    c.parse.ensures.value.0 in
    let is : c.in_ok-n.n ≡ n = cc (read, c.in_ok-n.ensures.value) in
    let wrote : c.as_str.result.now ≡ c.in_ok-text.text.now = c.as_str.ensures.value ∙ c.write_head.ensures
    ∙ ap head_file_text is ∙ sym e ∙ sym same in
    absurd (search (rules, wrote))

pub returns-clause-only : goal.returns-clause-only
returns-clause-only c = λ n least most e.
    let same : c.in_ok-text.text.now ≡ c.args.bytes.now = search rules in
    let front = strip_suffix_char 10 c.in_ok-text.text.now (Some c.in_ok-strip_suffix.field-0)
    c.in_ok-strip_suffix.ensures.cases (omega arith) in
    let read = parsed c.in_ok-strip_suffix.field-0.now n c.parse.result most (sym front ∙ same ∙ e)
    c.parse.ensures.value.0 in
    c.in_ok-n.ensures.value ∙ read
