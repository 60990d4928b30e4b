use Rattle.std.proofs.Common.{rules, List, map, true, ◌≡◌}
use Rattle.std.specs.List.{list_all}
use Rattle.std.specs.Borrow.{Bor}
use Rattle.std.proofs.lemmas.Result.{IfErr-weaker, IfOk-weaker}
use Rattle.clap.specs.Words.{Text}
use Rattle.cdb_commands.specs.OptionWords.{is_word}
use Rattle.cdb_commands.proofs.OptionWalk.{none_by, spelled_by}
use Rattle.cdb_commands.proofs.given.read_uses.Goals as goal

pub returns-clause-ok : goal.returns-clause-ok
returns-clause-ok c =
    let words : List Text = map {A = Bor (List _)} {B = List _} (λ s. s.now) c.args.words.now in
    let all : list_all is_word words ≡ true = search rules in
    IfOk-weaker c.read_given.result _ _ (λ g k. spelled_by words g all k) c.read_given.ensures.ok

pub returns-clause-usage : goal.returns-clause-usage
returns-clause-usage c =
    let words : List Text = map {A = Bor (List _)} {B = List _} (λ s. s.now) c.args.words.now in
    let all : list_all is_word words ≡ true = search rules in
    IfErr-weaker c.read_given.result _ _ (λ e k usage. none_by words all (k usage)) c.read_given.ensures.usage
