use Rattle.std.proofs.Common.{ap, refl, codes, true, List, map, ◌≡◌, ◌∙◌, sym}
use Rattle.std.specs.Borrow.{Bor}
use Rattle.clap.specs.Words.{Text, app_of, fault_of, first_of, found_of, is_simple, is_simple_and_free, matches_of, rows_of}
use Rattle.clap.proofs.WalkLemmas.{first_value-rows}
use Rattle.cdb_commands.specs.OptionCommand.{options_app}
use Rattle.cdb_commands.proofs.given.read_given.Goals as goal

pub returns-in-Ok-try_get_matches_from-clause-ok :
    goal.returns-in-Ok-try_get_matches_from-clause-ok
returns-in-Ok-try_get_matches_from-clause-ok c =
    let words : List Text = map {A = Bor (List _)} {B = List _} (λ s. s.now) c.args.words.now in
    let is : app_of c.in-Ok.command ≡ options_app = c.in-Ok.ensures in
    let simple : is_simple options_app ≡ true = refl in
    let free : is_simple_and_free options_app ≡ true = refl in
    let m = c.in-Ok-try_get_matches_from.matches in
    let rows : rows_of (found_of m) ≡ matches_of options_app words =
    (c.in-Ok-try_get_matches_from.ensures.matches (ap is_simple is ∙ simple)).0 ∙ ap (λ a. matches_of a words) is in
    record {
      taken = sym (ap (λ a. fault_of a words) is)
          ∙ c.in-Ok-try_get_matches_from.ensures.kinds (ap is_simple_and_free is ∙ free);
      mode = c.get_str.ensures ∙ first_value-rows (found_of m) (codes "mode") ∙ ap (first_of (codes "mode")) rows;
      background = c.get_str-in-Ok-try_get_matches_from.ensures ∙ first_value-rows (found_of m) (codes "background")
          ∙ ap (first_of (codes "background")) rows;
      start = c.get_str-in-Ok-try_get_matches_from-2.ensures ∙ first_value-rows (found_of m) (codes "start")
          ∙ ap (first_of (codes "start")) rows;
      count = c.get_str-in-Ok-try_get_matches_from-3.ensures ∙ first_value-rows (found_of m) (codes "count")
          ∙ ap (first_of (codes "count")) rows;
    }
