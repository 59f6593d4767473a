-- What is wrong with the arguments for the rules.
use Rattle.std.specs.Prelude.{◌≡◌, List, false, true}
use Rattle.clap.specs.Words.{Row}
use Rattle.command_lines.specs.RuleWords.{asks_print, has_allow, has_allowances, has_profile}
use Rattle.command_lines.specs.declared.rule_words.WrongRules.{WrongRules}
use Rattle.command_lines.specs.declared.rule_words.WrongRules.TheVariants.{Allowance, AllowedUnderCore, Profile}

-- the arguments have this fault
abbrev pub AreWrongBy : List Row → WrongRules → Type 0
AreWrongBy given Profile = has_profile given ≡ false
AreWrongBy given Allowance = has_allowances given ≡ false
AreWrongBy given AllowedUnderCore = (has_allow given ≡ true) × (asks_print given ≡ false)
