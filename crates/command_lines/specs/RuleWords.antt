-- The rules that a command line asks for.
use Rattle.std.specs.Prelude.{◌≡◌, ◌||◌, Bool, List, codes, false, if◌then◌else◌, true}
use Rattle.std.specs.List.{list_all, list_any}
use Rattle.std.specs.Option.{is_some, option_map_or}
use Rattle.std.specs.Str.{bytes_eq}
use Rattle.clap.specs.Words.{Row, Text, all_of, first_of}
use Rattle.draw_ops.specs.RuleSets.{core_rules}
use Rattle.draw_ops.specs.declared.rules.Allowances.{Allowances}
use Rattle.draw_ops.specs.declared.rules.Profile.TheVariants.{Print}
use Rattle.draw_ops.specs.declared.rules.Rules.{Rules}

-- the argument PROFILE was given as `print`
abbrev pub asks_print : List Row → Bool
asks_print given = option_map_or (λ name. bytes_eq name (codes "print")) (first_of (codes "PROFILE") given) false

-- the name is among these names
abbrev pub is_among : Text → List Text → Bool
is_among name names = list_any (λ other. bytes_eq other name) names

-- the name is a value of `--allow`
abbrev pub is_allowed : List Row → Text → Bool
is_allowed given name = option_map_or (is_among name) (all_of (codes "NAME") given) false

-- what `--allow` names
abbrev pub allowances_asked : List Row → Allowances
allowances_asked given = record {
  held_deletion = is_allowed given (codes "held-deletion");
  emf_plus = is_allowed given (codes "emf-plus");
}

-- the rules that the arguments ask for: the print profile with what `--allow` names, if PROFILE is `print`; else the
-- core profile, under which nothing is allowed
abbrev pub rules_asked : List Row → Rules
rules_asked given = if asks_print given then record { profile = Print; allowed = allowances_asked given } else core_rules

-- the word is the name of a profile
abbrev pub is_profile : Text → Bool
is_profile name = bytes_eq name (codes "core") || bytes_eq name (codes "print")

-- the word is the name of what may be allowed
abbrev pub is_allowance : Text → Bool
is_allowance name = bytes_eq name (codes "held-deletion") || bytes_eq name (codes "emf-plus")

-- PROFILE is a profile's name, if it was given
abbrev pub has_profile : List Row → Bool
has_profile given = option_map_or is_profile (first_of (codes "PROFILE") given) true

-- `--allow` has only values that may be allowed, if it was given
abbrev pub has_allowances : List Row → Bool
has_allowances given = option_map_or (list_all is_allowance) (all_of (codes "NAME") given) true

-- the option `--allow` was given
abbrev pub has_allow : List Row → Bool
has_allow given = is_some (all_of (codes "NAME") given)

-- `--profile` and `--allow` have values that they may have, if they were given, and `--allow` was given only for print
pub record AreRightRules (given : List Row) : Type 0 where
  pub profile : has_profile given ≡ true
  pub allowances : has_allowances given ≡ true
  pub print : has_allow given ≡ true → asks_print given ≡ true

-- the arguments ask for these rules, as they should
pub record GivesRules (given : List Row) (rules : Rules) : Type 0 where
  pub right : AreRightRules given
  pub are : rules ≡ rules_asked given
