-- The rows of the parsed command are the arguments that it was given.
use Rattle.std.proofs.Common.{◌≡◌, ◌∙◌, ap, sym, subst, refl, Bool, List, [], ◌∷◌, false, true, Option, Some, None, IfSome, find, option_map, Box}
use Rattle.std.proofs.lemmas.Slice.Eq.{bytes_eq-Decides}
use Rattle.std.specs.Box.{box_value}
use Rattle.std.specs.Str.{bytes_eq}
use Rattle.clap.specs.Words.{Row, Shape, Text}
use Rattle.clap.specs.Simple.{subcommand_rows}
use Rattle.clap.specs.declared.parser.matches.SubCommand.{SubCommand}
use Rattle.clap.specs.declared.parser.matches.ArgMatches.TheViews.{out-SubCommand}
use Rattle.command_lines.specs.Asked.{HoldsNames, IsFound}
use Rattle.command_lines.specs.BatchWords.{AsksRight, IsOther}
use Rattle.command_lines.specs.CommandLine.{AreRightArguments, HoldsWords, IsAskedBy, IsRightCommand, command_name, metaplay_app}
use Rattle.command_lines.specs.declared.asked.Asked.{Asked}
use Rattle.command_lines.specs.declared.asked.Asked.TheVariants.{Batch, Command, Version}
use Rattle.command_lines.specs.declared.asked.CommandLine.{CommandLine}

same_inside : {A : Type 0} {x y : A} → Some x ≡ Some y → x ≡ y
same_inside e = cc

-- no command of the list was found
abbrev pub AreNotMet : Option Text → List Shape → Type 0
AreNotMet met [] = Unit {0}
AreNotMet met (s ∷ others) = (met ≡ Some s.name → false ≡ true) × AreNotMet met others

not_found : (shapes : List Shape) (name : Text) (shape : Shape) → AreNotMet (Some name) shapes → find (λ s. bytes_eq s.name name) shapes ≡ Some shape → ⊥
not_found [] name shape others found = cc
not_found (s ∷ shapes) name shape others found = go (bytes_eq s.name name) refl (not_found shapes name shape others.1)
  where
    go : (same : Bool) → bytes_eq s.name name ≡ same → (find (λ t. bytes_eq t.name name) shapes ≡ Some shape → ⊥) → ⊥
    go true is after =
        let bad : false ≡ true = others.0 (ap Some (sym ((bytes_eq-Decides s.name name).0 is))) in
        cc
    go false is after = after (rw is at found)

module _ {Z : Type 0} where
  -- the name of the parsed command
  abbrev name_met : Option (Box SubCommand Z) → Option Text
  name_met met = option_map (λ b. (out-SubCommand (box_value b)).name.now) met

  -- the arguments of the parsed command
  abbrev rows_met : Option (Box SubCommand Z) → Option (List Row)
  rows_met met = option_map (λ p. p.1) (subcommand_rows met)

  both_met : (met : Option (Box SubCommand Z)) (name : Text) (given : List Row) → name_met met ≡ Some name → rows_met met ≡ Some given → subcommand_rows met ≡ Some (name, given)
  both_met None name given named rows = cc
  both_met (Some b) name given named rows = cc

  -- the command line has this name and these rows
  pub asked_by : (met : Option (Box SubCommand Z)) (name : Text) (given : List Row) (r : Option CommandLine) → name_met met ≡ Some name → rows_met met ≡ Some given
      → IfSome r (λ line. command_name line ≡ name) → IfSome r (HoldsWords given) → IfSome r (IsAskedBy (subcommand_rows met))
  asked_by met name given None named rows same gives = tt
  asked_by met name given (Some line) named rows same gives = record {
    given = given;
    command = both_met met name given named rows ∙ ap (λ (n : Text). Some (n, given)) (sym same);
    gives = gives;
  }

  -- the command of this name was given proper arguments
  pub right_rows : (met : Option (Box SubCommand Z)) (name : Text) (shape : Shape) (rows : List Row) → IsRightCommand (subcommand_rows met) → name_met met ≡ Some name
      → rows_met met ≡ Some rows → find (λ s. bytes_eq s.name name) metaplay_app.subs ≡ Some shape → AreRightArguments shape rows
  right_rows met name shape rows right named has declared =
      let both : (name, rows) ≡ (right.name, right.given) = same_inside (sym (both_met met name rows named has) ∙ right.command) in
      let found : find (λ s. bytes_eq s.name right.name) metaplay_app.subs ≡ Some shape =
      subst (λ (n : Text). find (λ (s : Shape). bytes_eq s.name n) metaplay_app.subs ≡ Some shape) (ap (λ (p : Text × List Row). p.0) both) declared in
      let one : right.shape ≡ shape = same_inside (sym right.declared ∙ found) in
      subst (AreRightArguments shape) (sym (ap (λ (p : Text × List Row). p.1) both)) (subst (λ (s : Shape). AreRightArguments s right.given) one right.allowed)

  -- a command on several files with these rows was found
  pub batch_found : (met : Option (Box SubCommand Z)) (command : Text) (given : List Row) (asked : Asked) → name_met met ≡ Some command → rows_met met ≡ Some given
      → HoldsNames command given asked → IsFound (subcommand_rows met) asked
  batch_found met command given (Command line) named rows holds = absurd holds
  batch_found met command given Version named rows holds = absurd holds
  batch_found met command given (Batch names task) named rows holds = record {
    given = given;
    command = both_met met command given named rows ∙ ap (λ (n : Text). Some (n, given)) (sym holds.0);
    are = holds.1;
    gives = holds.2;
  }

  pub some_batch_found : (met : Option (Box SubCommand Z)) (command : Text) (given : List Row) (r : Option Asked) → name_met met ≡ Some command → rows_met met ≡ Some given
      → IfSome r (HoldsNames command given) → IfSome r (IsFound (subcommand_rows met))
  some_batch_found met command given None named rows holds = tt
  some_batch_found met command given (Some asked) named rows holds = batch_found met command given asked named rows holds

  -- what holds for the rows of a command with this name holds for those that were found
  pub right_given : (met : Option (Box SubCommand Z)) (command : Text) (holds : List Row → Type 0) (given : List Row) → name_met met ≡ Some command → rows_met met ≡ Some given
      → AsksRight command holds (subcommand_rows met) → holds given
  right_given met command holds given named rows right =
      let both : (command, given) ≡ (command, right.given) = same_inside (sym (both_met met command given named rows) ∙ right.is) in
      subst holds (sym (ap (λ (p : Text × List Row). p.1) both)) right.right

  -- the parsed command has the right name
  name_right : (met : Option (Box SubCommand Z)) (right : IsRightCommand (subcommand_rows met)) → name_met met ≡ Some right.name
  name_right None right = ap (option_map (λ (command : Text × List Row). command.0)) right.command
  name_right (Some b) right = ap (option_map (λ (command : Text × List Row). command.0)) right.command

  -- a command of another name was found, if one was
  pub other_met : (met : Option (Box SubCommand Z)) (name : Text) → IsOther name (subcommand_rows met) → name_met met ≡ Some name → false ≡ true
  other_met None name other named = cc
  other_met (Some b) name other named = absurd (other _ (both_met (Some b) name _ named refl))

  -- if no command was found, no command line was right
  pub none_right : (met : Option (Box SubCommand Z)) → IsRightCommand (subcommand_rows met) → AreNotMet (name_met met) metaplay_app.subs → ⊥
  none_right met right others =
      not_found metaplay_app.subs right.name right.shape (subst (λ (m : Option Text). AreNotMet m metaplay_app.subs) (name_right met right) others) right.declared
