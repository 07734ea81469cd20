use Rattle.std.proofs.Common.{◌≡◌, ◌∙◌, ap, ap₂, rules, refl, codes, IfOk}
use Rattle.std.proofs.lemmas.Result.{IfOk-weaker}
use Rattle.clap.specs.Words.{AddsArg, app_of, rule_of, with_rule}
use Rattle.clap.specs.Simple.{app_of_fields}
use Rattle.command_line.specs.Program.{bare, mode_rule, option_rule, program}
use Rattle.command_line.proofs.check.command.Goals as goal

pub returns : goal.returns
unfolding program
returns c =
    let bare_is : app_of c.disable_version_flag-bare.result ≡ bare = search rules in
    let mode_is : rule_of c.required-mode.result ≡ mode_rule = search rules in
    let first = c.in_ok-arg.ensures.shape (search rules) ∙ ap₂ with_rule bare_is mode_is in
    let second = c.in_ok-arg-2.ensures.shape c.option.ensures.local ∙ ap₂ with_rule first c.option.ensures.rule in
    let third = c.in_ok-arg-3.ensures.shape c.option-2.ensures.local ∙ ap₂ with_rule second c.option-2.ensures.rule in
    let fourth = c.in_ok-arg-4.ensures.shape c.option-3.ensures.local ∙ ap₂ with_rule third c.option-3.ensures.rule in
    let fifth = c.in_ok-arg-5.ensures.shape c.option-4.ensures.local ∙ ap₂ with_rule fourth c.option-4.ensures.rule in
    IfOk-weaker c.arg-6.result _ _ (λ r h. h.shape c.option-5.ensures.local ∙ ap₂ with_rule fifth c.option-5.ensures.rule) c.arg-6.ensures
