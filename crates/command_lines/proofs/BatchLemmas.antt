-- What the commands on several files have in common.
use Rattle.std.proofs.Common.{arith, leb, ap₂, fold, ◌≡◌, ◌∙◌, ◌&&◌, ◌≤◌, ◌++◌, ap, sym, refl, Bool, List, [], ◌∷◌, true, Some, map, length}
use Rattle.std.proofs.lemmas.Bool.{le-leb}
use Rattle.std.proofs.lemmas.List.{append_assoc, append-nil}
use Rattle.clap.specs.Lexer.{usize_max}
use Rattle.clap.specs.Simple.{Shape, built, names_of}
use Rattle.clap.specs.Takes.{values_pass, walk_passes}
use Rattle.clap.specs.Walk.{Names, walked, Rule, Text, Walk}
use Rattle.clap.proofs.OnLiterals.{clap_on_literals}
use Rattle.command_lines.specs.CommandLine.{files_rule, metaplay_app}
use Rattle.command_lines.specs.RightWords.{AreOfKinds, ArgumentKind, exactly, name}

-- each word is a name
abbrev pub name_kinds : List Text → List ArgumentKind
name_kinds words = map (λ (word : Text). name) words

pub are_exactly : (options : List Text) → AreOfKinds (map exactly options) options
are_exactly [] = tt
are_exactly (word ∷ options) = (refl, are_exactly options)

-- clap's tests of these names
abbrev pub names_pass : List Text → Bool
names_pass names = leb 1 (length names) && (leb (length names) usize_max && values_pass files_rule names)

-- after the command's name, all words are the command's
pub words_stay : (rules : List Rule) (names : Names) (w : Walk) (command : Text) (words before : List Text)
    → fold (walked rules names) (record w { stopped = Some (command, before) }) words ≡ record w { stopped = Some (command, before ++ words) }
unfolding walked
words_stay rules names w command [] before = ap (λ (all : List Text). record w { stopped = Some (command, all) }) (sym (append-nil before))
words_stay rules names w command (word ∷ words) before =
    words_stay rules names w command words (before ++ word ∷ []) ∙ ap (λ (all : List Text). record w { stopped = Some (command, all) }) (append_assoc before (word ∷ []) words)

-- the program's own level
abbrev pub top : Shape
top = (built metaplay_app).top

abbrev pub top_names : Names
top_names = names_of (built metaplay_app)

-- words after the command's name pass at the program's level
pub words_pass : (s : Shape) (names : Names) (w : Walk) (command : Text) (words before : List Text) → walk_passes s names (record w { stopped = Some (command, before) }) words ≡ true
unfolding walk_passes walked
words_pass s names w command [] before = refl
words_pass s names w command (word ∷ words) before = words_pass s names w command words (before ++ word ∷ [])

-- any text may be a name
values_taken : (words : List Text) → values_pass files_rule words ≡ true
unfolding clap_on_literals
values_taken [] = refl
values_taken (word ∷ words) = values_taken words

pub names_taken : (word : Text) (words : List Text) → length (word ∷ words) ≤ usize_max → names_pass (word ∷ words) ≡ true
names_taken word words few =
    ap (λ (some : Bool). some && (leb (length (word ∷ words)) usize_max && values_pass files_rule (word ∷ words))) (le-leb 1 (length (word ∷ words)) (omega arith))
    ∙ ap₂ (λ (within pass : Bool). within && pass) (le-leb (length (word ∷ words)) usize_max few) (values_taken (word ∷ words))
