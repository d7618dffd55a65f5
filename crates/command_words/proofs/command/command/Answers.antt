use Rattle.std.proofs.Common.{◌≡◌, ◌∙◌, ap, ap₂, true}
use Rattle.std.specs.Prelude.{codes}
use Rattle.clap.specs.Words.{App, Rule, app_of, with_rule}
use Rattle.clap.specs.Simple.{app_of_fields, on_top}
use Rattle.command_words.specs.Words.{command_app, bare_app, number_rule}
use Rattle.command_words.proofs.command.command.Goals as goal

-- a command with one more argument
more : (old new before : App) (made rule : Rule) → new ≡ with_rule old made → old ≡ before → made ≡ rule → new ≡ with_rule before rule
more old new before made rule step was is = step ∙ ap₂ with_rule was is

pub returns : goal.returns
unfolding command_app
returns c =
    let bare : app_of c.disable_version_flag-bare.result ≡ bare_app =
    ap app_of_fields c.disable_version_flag-bare.ensures ∙ ap (on_top (λ s. record s { disable_version_flag = true })) (ap app_of_fields c.disable_help_flag.ensures ∙ ap (on_top (λ s. record s { disable_help_flag = true })) c.new.ensures.app) in
    let one = more _ _ _ _ _ (c.in_ok-one.ensures.shape c.module_arg.ensures.1) bare c.module_arg.ensures.0 in
    let two = more _ _ _ _ _ (c.in_ok-two.ensures.shape c.number_arg.ensures.1) one (c.number_arg.ensures.0 ∙ ap (number_rule (codes "turns")) c.turns_range.ensures) in
    let three = more _ _ _ _ _ (c.in_ok-three.ensures.shape c.number_arg-2.ensures.1) two (c.number_arg-2.ensures.0 ∙ ap (number_rule (codes "workers")) c.workers_range.ensures) in
    let four = more _ _ _ _ _ (c.in_ok-four.ensures.shape c.number_arg-3.ensures.1) three (c.number_arg-3.ensures.0 ∙ ap (number_rule (codes "demo")) c.demo_range.ensures) in
    let five = more _ _ _ _ _ (c.in_ok-five.ensures.shape c.flag_arg.ensures.1) four c.flag_arg.ensures.0 in
    let six = more _ _ _ _ _ (c.in_ok-six.ensures.shape c.flag_arg-2.ensures.1) five c.flag_arg-2.ensures.0 in
    more _ _ _ _ _ (c.in_ok-seven.ensures.shape c.text_arg.ensures.1) six c.text_arg.ensures.0
