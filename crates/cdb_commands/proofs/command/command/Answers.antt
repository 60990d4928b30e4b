use Rattle.std.proofs.Common.{rules, ap, ap₂, codes, true, ◌≡◌, ◌∙◌}
use Rattle.std.proofs.lemmas.Result.{IfOk-weaker}
use Rattle.clap.specs.Words.{app_of, rule_of, with_rule}
use Rattle.clap.specs.Simple.{on_top, app_of_fields}
use Rattle.clap.specs.declared.builder.command.Command.{Command}
use Rattle.clap.specs.declared.builder.command.Command.TheOpen.{Command-F}
use Rattle.cdb_commands.specs.OptionCommand.{bare_app, option_rule}
use Rattle.cdb_commands.proofs.command.command.Goals as goal

pub returns : goal.returns
returns c =
    let fields = c.disable_help_flag-bare.ensures
    ∙ ap (λ (f : Command-F Command). record f { disable_help_flag = true }) c.no_binary_name.ensures in
    let bare_is : app_of c.disable_help_flag-bare.result ≡ bare_app = ap app_of_fields fields
    ∙ ap (on_top (λ s. record s { no_binary_name = true; disable_help_flag = true })) c.new.ensures.app in
    let mode_is : rule_of c.option.result ≡ option_rule (codes "mode") = search rules in
    let background_is : rule_of c.option-2.result ≡ option_rule (codes "background") = search rules in
    let start_is : rule_of c.option-3.result ≡ option_rule (codes "start") = search rules in
    let count_is : rule_of c.option-4.result ≡ option_rule (codes "count") = search rules in
    let one_is = c.in_ok-one.ensures.shape c.option.ensures.local ∙ ap₂ with_rule bare_is mode_is in
    let two_is = c.in_ok-two.ensures.shape c.option-2.ensures.local ∙ ap₂ with_rule one_is background_is in
    let three_is = c.in_ok-three.ensures.shape c.option-3.ensures.local ∙ ap₂ with_rule two_is start_is in
    IfOk-weaker c.arg-4.result _ _ (λ m h. h.shape c.option-4.ensures.local ∙ ap₂ with_rule three_is count_is)
    c.arg-4.ensures
