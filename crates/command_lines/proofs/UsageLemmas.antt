-- What clap returns for words of known kinds computes.
use Rattle.std.proofs.Common.{◌≡◌, ◌∙◌, ap, sym, refl, List, [], ◌∷◌, false, true, Some, find, unwrap_or}
use Rattle.std.specs.List.{All}
use Rattle.std.specs.Str.{bytes_eq}
use Rattle.std.proofs.lemmas.List.Elements.{All-cons, All-nil}
use Rattle.clap.specs.Lexer.{without_minus}
use Rattle.clap.specs.Simple.{Shape, built}
use Rattle.clap.specs.Takes.{level_passes}
use Rattle.clap.specs.Walk.{Row, Text, finished, nothing_held, one_of, rows_after}
use Rattle.clap.specs.Words.{subcommand_of, takes}
use Rattle.command_lines.specs.CommandLine.{GivesAll, GivesSide, IsRightCommand, IsSideText, metaplay_app}
use Rattle.command_lines.specs.RightWords.{AreOfKinds, ArgumentKind, IsOfKind}
use Rattle.command_lines.specs.RuleWords.{AreRightRules, asks_print, has_allow, has_allowances, has_profile}
use Rattle.command_lines.proofs.KindLemmas.{kinds_end, horizontal_is, horizontal_kinds, rows_kinds}
use Rattle.command_lines.proofs.SideLemmas.{no_minus, plain_side}

-- a width or height was given
pub side_given : (given : List Row) (id word : Text) → one_of id given ≡ Some (without_minus word) → IsSideText word → GivesSide given id
side_given given id word is of_side = record { text = word; is_given = is ∙ ap Some (no_minus word (plain_side word of_side)); is_side = of_side }

-- the arguments ask for the core profile, in the right words
pub core_right : (given : List Row) → has_profile given ≡ true → has_allowances given ≡ true → has_allow given ≡ false → AreRightRules given
core_right given profile allowances none = record {
  profile = profile;
  allowances = allowances;
  print = λ some. let bad : false ≡ true = sym none ∙ some in cc;
}

-- the arguments ask for the print profile, in the right words
pub print_right : (given : List Row) → has_profile given ≡ true → has_allowances given ≡ true → asks_print given ≡ true → AreRightRules given
print_right given profile allowances print = record { profile = profile; allowances = allowances; print = λ some. print }

-- clap accepts these arguments of a command, and they are the ones that it takes
pub record IsTaken (command : Text) (arguments : List Text) : Type 0 where
  pub taken : (program : Text) → takes metaplay_app (program ∷ command ∷ arguments) ≡ true
  pub right : (program : Text) → IsRightCommand (subcommand_of metaplay_app (program ∷ command ∷ arguments))
  pub named : (program : Text) → (right program).name ≡ command

-- a command as clap builds it
abbrev pub built_shape : Text → Shape
built_shape command = unwrap_or (find (λ s. bytes_eq s.name command) (built metaplay_app).subs) metaplay_app.top

-- what clap returns for words of these kinds computes
pub of_usage : (command : Text) (declared : Shape) (kinds : List ArgumentKind) (arguments : List Text) → AreOfKinds kinds arguments
    → find (λ s. bytes_eq s.name command) metaplay_app.subs ≡ Some declared
    → ((program : Text) → level_passes (built_shape command) [] nothing_held arguments false ≡ true → takes metaplay_app (program ∷ command ∷ arguments) ≡ true)
    → ((program : Text) → subcommand_of metaplay_app (program ∷ command ∷ arguments) ≡ Some (command, rows_after (built_shape command).rules [] arguments))
    → horizontal_kinds (built_shape command) kinds arguments ≡ true
    → GivesAll declared.rules (finished (built_shape command).rules (kinds_end (built_shape command).rules kinds arguments))
    → AreRightRules (finished (built_shape command).rules (kinds_end (built_shape command).rules kinds arguments)) → IsTaken command arguments
of_usage command declared kinds arguments are found enters meets passes gives rules = record {
  taken = λ program. enters program (horizontal_is (built_shape command) kinds arguments are ∙ passes);
  right = λ program. record {
    name = command;
    given = finished (built_shape command).rules (kinds_end (built_shape command).rules kinds arguments);
    shape = declared;
    command = meets program ∙ ap (λ (rows : List Row). Some (command, rows)) (rows_kinds (built_shape command).rules kinds arguments are);
    declared = found;
    allowed = record { all = gives; rules = rules };
  };
  named = λ program. refl;
}

-- a statement holds for all words of these kinds
abbrev pub OfKinds : List ArgumentKind → (List Text → Type 0) → Type 0
OfKinds [] holds = holds []
OfKinds (kind ∷ kinds) holds = (word : Text) → IsOfKind kind word → OfKinds kinds (λ words. holds (word ∷ words))

pub of_kinds : (kinds : List ArgumentKind) (words : List Text) (holds : List Text → Type 0) → OfKinds kinds holds → AreOfKinds kinds words → holds words
of_kinds [] [] holds all are = all
of_kinds [] (word ∷ words) holds all are = absurd are
of_kinds (kind ∷ kinds) [] holds all are = absurd are
of_kinds (kind ∷ kinds) (word ∷ words) holds all are = of_kinds kinds words (λ rest. holds (word ∷ rest)) (all word are.0) are.1

-- clap accepts each command line of this usage
abbrev pub UsageIsTaken : Text × List ArgumentKind → Type 0
UsageIsTaken usage = OfKinds usage.1 (IsTaken usage.0)

-- a statement holds for each element of a list
abbrev pub Each : {X : Type 0} → (X → Type 0) → List X → Type 0
Each holds [] = Unit {0}
Each holds (x ∷ others) = holds x × Each holds others

pub all_of_list : {X : Type 0} (holds : X → Type 0) (list : List X) → Each holds list → All holds list
all_of_list holds [] each = All-nil holds
all_of_list holds (x ∷ others) each = All-cons holds x others each.0 (all_of_list holds others each.1)
