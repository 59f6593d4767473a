-- The options for the rules come after the file.
use Rattle.std.proofs.Common.{◌∙◌, ap}
use Rattle.std.proofs.lemmas.Result.{IfOk-weaker}
use Rattle.command_lines.specs.CommandLine.{with_rules}
use Rattle.command_lines.proofs.declared.list.Goals as goal

pub returns : goal.returns
returns c =
    let file = c.in_ok-command.ensures in
    IfOk-weaker c.with_rules.result _ _ (λ r ruled. record { is = ruled.is ∙ ap with_rules file.is; local = ruled.local file.local }) c.with_rules.ensures
