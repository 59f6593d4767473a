-- What clap returns for `show` and three words that aren't flags.
use Rattle.std.proofs.Common.{◌≡◌, ◌∙◌, ap, sym, subst, refl, ℕ, List, [], ◌∷◌, Option, Some, arith, codes}
use Rattle.clap.specs.Lexer.{without_minus}
use Rattle.clap.specs.Simple.{Shape, built}
use Rattle.clap.specs.Walk.{Row, Rule, Text, finished, one_of, rows_after}
use Rattle.clap.specs.Words.{first_of, subcommand_of}
use Rattle.clap.proofs.OnLiterals.{clap_on_literals}
use Rattle.command_lines.specs.declared.asked.CommandLine.{CommandLine}
use Rattle.command_lines.specs.declared.asked.CommandLine.TheVariants.{Check, List as ListLine, Over, Play, Prepare, Show}
use Rattle.command_lines.specs.CommandLine.{AreOfWords, GivesName, GivesNumber, GivesDimensions, HasWords, IsAskedByWords, IsPlainWord, metaplay_app, number_of}
use Rattle.command_lines.specs.Asked.{HasPlainWords, IsAskedFor, IsFound}
use Rattle.command_lines.specs.BatchWords.{AsksBatchByWords, batch_name, names_in}
use Rattle.command_lines.specs.declared.asked.Asked.{Asked}
use Rattle.command_lines.specs.declared.asked.Asked.TheVariants.{Batch, Command, Version}
use Rattle.command_lines.specs.declared.asked.BatchTask.{BatchTask}
use Rattle.command_lines.specs.declared.asked.BatchTask.TheVariants.{Certify, Info}
use Rattle.command_lines.specs.RightWords as kind
use Rattle.command_lines.specs.RuleWords.{rules_asked}
use Rattle.command_lines.proofs.KindLemmas.{kinds_end, rows_kinds}
use Rattle.command_lines.proofs.SideLemmas.{no_minus}

abbrev rules_of_first : List Shape → List Rule
rules_of_first [] = []
rules_of_first (s ∷ others) = s.rules

-- the arguments of `show`, and the flag for help
abbrev pub show_rules : List Rule
show_rules = rules_of_first (built metaplay_app).subs

pub first_word : (program file wide high : Text) → subcommand_of metaplay_app (program ∷ codes "show" ∷ file ∷ wide ∷ high ∷ []) ≡ Some (codes "show", rows_after show_rules [] (file ∷ wide ∷ high ∷ []))
unfolding clap_on_literals
first_word program file wide high = refl

-- three words that aren't flags, one by one
abbrev three_names : List kind.ArgumentKind
three_names = kind.name ∷ kind.name ∷ kind.name ∷ []

abbrev pub given_all : Text → Text → Text → List Row
given_all file wide high = finished show_rules (kinds_end show_rules three_names (file ∷ wide ∷ high ∷ []))

pub other_words : (file wide high : Text) → IsPlainWord file → IsPlainWord wide → IsPlainWord high → rows_after show_rules [] (file ∷ wide ∷ high ∷ []) ≡ given_all file wide high
other_words file wide high plain_file plain_wide plain_high =
    rows_kinds show_rules three_names (file ∷ wide ∷ high ∷ []) (plain_file, (plain_wide, (plain_high, tt)))

number_given : (word : Text) (given : List Row) (id : Text) (number : ℕ) → IsPlainWord word → one_of id given ≡ Some (without_minus word) → GivesNumber given id number → number ≡ number_of word
number_given word given id number plain is gives =
    let met : one_of id given ≡ Some gives.text = gives.is_given in
    let same : without_minus word ≡ gives.text = cc in
    gives.reads ∙ ap number_of (sym same ∙ no_minus word plain)

-- the rows for one name
same_inside : {A : Type 0} {x y : A} → Some x ≡ Some y → x ≡ y
same_inside e = cc

same_rows : (met : Option (Text × List Row)) (name other : Text) (given all : List Row) → met ≡ Some (name, given) → met ≡ Some (other, all) → given ≡ all
same_rows met name other given all e f = ap (λ (command : Text × List Row). command.1) (same_inside (sym e ∙ f))

-- the first byte of a command's name
abbrev first_byte : Text → ℕ
first_byte [] = 0
first_byte (byte ∷ rest) = byte

-- two bytes are equal
abbrev is_byte : ℕ → ℕ → Type 0
is_byte a b = a ≡ b

one_name : (met : Option (Text × List Row)) (name other : Text) (given all : List Row) → met ≡ Some (name, given) → met ≡ Some (other, all) → first_byte name ≡ first_byte other
one_name met name other given all e f = ap (λ (command : Text × List Row). first_byte command.0) (same_inside (sym e ∙ f))

-- what a command asks for if its rows are known
by_rows : (met : Option (Text × List Row)) (all given : List Row) (file wide high name : Text) (width height : ℕ) → IsPlainWord wide → IsPlainWord high → met ≡ Some (codes "show", all) → first_of (codes "FILE") all ≡ Some file → one_of (codes "W") all ≡ Some (without_minus wide) → one_of (codes "H") all ≡ Some (without_minus high) → met ≡ Some (codes "show", given) → GivesName given (codes "FILE") name → GivesDimensions given width height → AreOfWords file wide high name width height
by_rows met all given file wide high name width height plain_wide plain_high is has_file has_wide has_high command named dimensions =
    let same = same_rows met _ _ _ _ command is in
    let found : first_of (codes "FILE") all ≡ Some name = rw same at named in
    record {
      named = same_inside (sym found ∙ has_file);
      wide_reads = number_given wide all (codes "W") width plain_wide has_wide (rw same at dimensions.wide);
      high_reads = number_given high all (codes "H") height plain_high has_high (rw same at dimensions.high);
    }

-- the rows that five such words give
shown_rows : (program file wide high : Text) → IsPlainWord file → IsPlainWord wide → IsPlainWord high → subcommand_of metaplay_app (program ∷ codes "show" ∷ file ∷ wide ∷ high ∷ []) ≡ Some (codes "show", given_all file wide high)
shown_rows program file wide high plain_file plain_wide plain_high =
    first_word program file wide high ∙ ap (λ (r : List Row). Some (codes "show", r)) (other_words file wide high plain_file plain_wide plain_high)

given_words : (line : CommandLine) (program file wide high : Text) → IsPlainWord file → IsPlainWord wide → IsPlainWord high → IsAskedByWords (program ∷ codes "show" ∷ file ∷ wide ∷ high ∷ []) line → HasWords file wide high line
given_words (Show name rules width height fit) program file wide high plain_file plain_wide plain_high asked =
    let rows = shown_rows program file wide high plain_file plain_wide plain_high in
    let same = same_rows _ _ _ _ _ asked.command rows in
    let unset : one_of (codes "fit") asked.given ≡ Some (codes "false") = ap (one_of (codes "fit")) same in (
      by_rows _ (given_all file wide high) asked.given file wide high name.now width height plain_wide plain_high rows refl refl refl asked.command asked.gives.0 asked.gives.2,
      asked.gives.3.unset unset,
      asked.gives.1.are ∙ ap rules_asked same,
    )
given_words (Prepare name rules width height output) program file wide high plain_file plain_wide plain_high asked =
    let rows = shown_rows program file wide high plain_file plain_wide plain_high in
    let bad : is_byte 115 112 = one_name _ _ _ _ _ rows asked.command in absurd (omega (arith, bad))
given_words (Check name certificate) program file wide high plain_file plain_wide plain_high asked =
    let rows = shown_rows program file wide high plain_file plain_wide plain_high in
    let bad : is_byte 115 99 = one_name _ _ _ _ _ rows asked.command in absurd (omega (arith, bad))
given_words (Play name certificate width height bands fit) program file wide high plain_file plain_wide plain_high asked =
    let rows = shown_rows program file wide high plain_file plain_wide plain_high in
    let bad : is_byte 115 112 = one_name _ _ _ _ _ rows asked.command in absurd (omega (arith, bad))
given_words (Over name certificate image) program file wide high plain_file plain_wide plain_high asked =
    let rows = shown_rows program file wide high plain_file plain_wide plain_high in
    let bad : is_byte 115 111 = one_name _ _ _ _ _ rows asked.command in absurd (omega (arith, bad))
given_words (ListLine name rules) program file wide high plain_file plain_wide plain_high asked =
    let rows = shown_rows program file wide high plain_file plain_wide plain_high in
    let bad : is_byte 115 108 = one_name _ _ _ _ _ rows asked.command in absurd (omega (arith, bad))

-- no task on several files has the command `show`
other_name : {P : Type 0} (task : BatchTask) → is_byte 115 (first_byte (batch_name task)) → P
other_name (Info rules) is = let bad : is_byte 115 105 = is in absurd (omega (arith, bad))
other_name (Certify rules width height folder replace) is = let bad : is_byte 115 99 = is in absurd (omega (arith, bad))

-- what these five words ask for
pub plain_words : (words : List Text) (asked : Asked) → IsAskedFor words asked → HasPlainWords words asked
plain_words words (Command line) asked program file wide high plain_file plain_wide plain_high is =
    given_words line program file wide high plain_file plain_wide plain_high (subst (λ (l : List Text). IsAskedByWords l line) is asked)
plain_words words (Batch names task) asked program file wide high plain_file plain_wide plain_high is =
    let rows = shown_rows program file wide high plain_file plain_wide plain_high in
    let about : AsksBatchByWords (program ∷ codes "show" ∷ file ∷ wide ∷ high ∷ []) (names_in names.items) task =
    subst (λ (l : List Text). AsksBatchByWords l (names_in names.items) task) is asked in
    other_name task (one_name _ _ _ _ _ rows about.command)
plain_words words Version asked program file wide high plain_file plain_wide plain_high is =
    let five : program ∷ codes "show" ∷ file ∷ wide ∷ high ∷ [] ≡ asked.program ∷ asked.word ∷ [] = sym is ∙ asked.are in
    cc

-- what is found is what is asked for
pub asked_for : (words : List Text) (asked : Asked) → IsFound (subcommand_of metaplay_app words) asked → IsAskedFor words asked
asked_for words (Command line) found = found
asked_for words (Batch names task) found = found
asked_for words Version found = absurd found
