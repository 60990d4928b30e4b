use Rattle.std.proofs.Common.{◌∙◌, sym, Some, None, lit<}
use Rattle.std.proofs.lemmas.Str.Pattern.{rfind_char}
use Rattle.cdb_model.proofs.MapLaws.{folder_above-last, folder_above-none}
use Rattle.cdb_files.proofs.folder.folder_above.Goals as goal

pub returns-in-Some : goal.returns-in-Some
returns-in-Some c =
    let last = rfind_char 47 c.args.path.now.bytes (Some c.in-Some.slash)
    (rw c.as_str.ensures.value at c.in-Some.ensures.cases) (lit< tt) in
    c.truncate.ensures ∙ sym (folder_above-last c.args.path.now.bytes c.in-Some.slash last.0 last.1 last.2)

pub returns-in-None : goal.returns-in-None
returns-in-None c =
    let none = rfind_char 47 c.args.path.now.bytes None
    (rw c.as_str.ensures.value at c.in-None.ensures.cases) (lit< tt) in
    c.clear.ensures ∙ sym (folder_above-none c.args.path.now.bytes none)
