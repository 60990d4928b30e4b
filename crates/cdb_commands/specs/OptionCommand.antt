-- The command of the option words, as a parse reads it.
use Rattle.std.specs.Prelude.{true, Some, codes}
use Rattle.clap.specs.Words.{App, Rule, new_app, new_rule, with_rule}
use Rattle.clap.specs.Simple.{on_top}
use Rattle.cdb_model.specs.Text.{Text}

-- an option of this name, which takes a value
abbrev pub option_rule : Text → Rule
option_rule name = record (new_rule name) { long = Some name }

abbrev pub bare_app : App
bare_app = on_top (λ s. record s { no_binary_name = true; disable_help_flag = true }) (new_app (codes "cdb"))

abbrev pub options_app : App
options_app = with_rule (with_rule (with_rule (with_rule bare_app
    (option_rule (codes "mode"))) (option_rule (codes "background"))) (option_rule (codes "start")))
    (option_rule (codes "count"))
