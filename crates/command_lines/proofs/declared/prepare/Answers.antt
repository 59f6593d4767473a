-- The width and height come after the file, then the output and the options for the rules.
use Rattle.std.proofs.Common.{◌∙◌, ap, ap₂}
use Rattle.std.proofs.lemmas.Result.{IfOk-weaker}
use Rattle.clap.specs.Words.{with_rule}
use Rattle.command_lines.specs.CommandLine.{with_dimensions, with_rules}
use Rattle.command_lines.proofs.AppLemmas.{both_local}
use Rattle.command_lines.proofs.declared.prepare.Goals as goal

pub returns : goal.returns
returns c =
    let dimensions = c.in_ok-command-2.ensures in
    let named = c.in_ok-command-3.ensures in
    let shape = named.shape c.name.ensures.local ∙ ap₂ with_rule (dimensions.is ∙ ap with_dimensions c.in_ok-command.ensures.is) c.name.ensures.rule in
    let local = both_local _ _ _ named.globals (dimensions.local c.in_ok-command.ensures.local) c.name.ensures.local in
    IfOk-weaker c.with_rules.result _ _ (λ r ruled. record { is = ruled.is ∙ ap with_rules shape; local = ruled.local local }) c.with_rules.ensures
