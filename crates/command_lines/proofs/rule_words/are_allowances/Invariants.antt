-- The names before the current one may be allowed.
use Rattle.std.proofs.Common.{◌≡◌, drop}
use Rattle.std.specs.List.{list_all}
use Rattle.command_lines.specs.BatchWords.{names_in}
use Rattle.command_lines.specs.RuleWords.{is_allowance}
use Rattle.command_lines.proofs.rule_words.are_allowances.Given as goal

abbrev pub invariant-loop-name : goal.invariant-loop-name
invariant-loop-name l =
    list_all is_allowance (names_in (drop l.name-index l.names)) ≡ list_all is_allowance (names_in l.names)
