-- Command lines that ask for something about each of several files.
use Rattle.std.specs.Prelude.{◌≡◌, ◌≤◌, ◌⊎◌, ◌++◌, ℕ, List, ◌∷◌, true, Option, Some, codes, count_by, map}
use Rattle.std.specs.Borrow.{Bor}
use Rattle.std.specs.List.{All, Any}
use Rattle.std.specs.Str.{bytes_eq}
use Rattle.clap.specs.Words.{Row, Text, all_of, subcommand_of, takes}
use Rattle.command_lines.specs.CommandLine.{AreRightArguments, GivesDimensions, GivesFlag, GivesName, IsPlainWord, IsRightCommand, IsSideText, certify_app, metaplay_app}
use Rattle.command_lines.specs.Dimensions.{HasTaskDimensions}
use Rattle.command_lines.specs.RightWords.{AreRightWords, rule_options}
use Rattle.command_lines.specs.RuleWords.{AreRightRules, GivesRules}
use Rattle.command_lines.specs.VersionWords.{AreVersionWords}
use Rattle.command_lines.specs.declared.asked.BatchTask.{BatchTask}
use Rattle.command_lines.specs.declared.asked.BatchTask.TheVariants.{Certify, Info}

-- the name of a task's command
abbrev pub batch_name : BatchTask → Text
batch_name (Info rules) = codes "info"
batch_name (Certify rules width height folder replace) = codes "certify"

-- a task has the rules, the numbers, the folder and the flag of the given arguments
abbrev pub HoldsBatch : List Row → BatchTask → Type 0
HoldsBatch given (Info rules) = GivesRules given rules
HoldsBatch given (Certify rules width height folder replace) =
    GivesRules given rules × GivesDimensions given width height × GivesName given (codes "DIR") folder.now
    × GivesFlag given (codes "replace") replace

-- FILE was given as these names, in order
abbrev pub GivesFiles : List Row → List Text → Type 0
GivesFiles given names = all_of (codes "FILE") given ≡ Some names

-- the command is that of the task, and it was given these names, in order, and what the task has
pub record AsksBatch (met : Option (Text × List Row)) (names : List Text) (task : BatchTask) : Type 0 where
  pub given : List Row
  pub command : met ≡ Some (batch_name task, given)
  pub are : GivesFiles given names
  pub gives : HoldsBatch given task

-- the words ask for this task on the files with these names
abbrev pub AsksBatchByWords : List Text → List Text → BatchTask → Type 0
AsksBatchByWords words names task = AsksBatch (subcommand_of metaplay_app words) names task

-- at most so many of the names are the word for standard input
abbrev pub HasInputs : ℕ → List Text → Type 0
HasInputs most names = count_by (λ name. bytes_eq name (codes "stdin")) names ≤ most

-- at most one of the names is the word for standard input
abbrev pub HasOneInput : List Text → Type 0
HasOneInput names = HasInputs 1 names

-- none of the names is the word for standard input
abbrev pub HasNoInput : List Text → Type 0
HasNoInput names = All (λ name. name ≡ codes "stdin" → ⊥) names

-- no more of the names are the word for standard input than the task may read
abbrev pub HasRightInputs : BatchTask → List Text → Type 0
HasRightInputs (Info rules) names = HasOneInput names
HasRightInputs (Certify rules width height folder replace) names = HasNoInput names

-- names were given, and this holds for them
pub record GivesNames (given : List Row) (holds : List Text → Type 0) : Type 0 where
  pub names : List Text
  pub are : GivesFiles given names
  pub fact : holds names

-- `info` was given names of which at most one is the word for standard input, and rules as they should be
pub record IsRightInfo (given : List Row) : Type 0 where
  pub names : GivesNames given HasOneInput
  pub rules : AreRightRules given

-- `certify` was given arguments as they should be, and no name that is the word for standard input
pub record IsRightCertify (given : List Row) : Type 0 where
  pub names : GivesNames given HasNoInput
  pub arguments : AreRightArguments certify_app.top given

-- the command has this name, and this holds for what it was given
pub record AsksRight (command : Text) (holds : List Row → Type 0) (met : Option (Text × List Row)) : Type 0 where
  pub given : List Row
  pub is : met ≡ Some (command, given)
  pub right : holds given

-- the command is `info`, and what it was given is right
abbrev pub AsksRightInfo : Option (Text × List Row) → Type 0
AsksRightInfo met = AsksRight (codes "info") IsRightInfo met

-- the command is `certify`, and what it was given is right
abbrev pub AsksRightCertify : Option (Text × List Row) → Type 0
AsksRightCertify met = AsksRight (codes "certify") IsRightCertify met

-- no command with this name was given
abbrev pub IsOther : Text → Option (Text × List Row) → Type 0
IsOther name met = (given : List Row) → met ≡ Some (name, given) → ⊥

-- no command on several files was given
abbrev pub IsNoBatch : Option (Text × List Row) → Type 0
IsNoBatch met = IsOther (codes "info") met × IsOther (codes "certify") met

-- the program's name, `info`, one or more names, none of which begins with a hyphen, and options for the rules; at most
-- one name is `stdin`
pub record AreInfoWords (words : List Text) : Type 0 where
  pub program : Text
  pub name : Text
  pub names : List Text
  pub options : List Text
  pub are : words ≡ program ∷ codes "info" ∷ name ∷ (names ++ options)
  pub plain : All IsPlainWord (name ∷ names)
  pub once : HasOneInput (name ∷ names)
  pub right : Any (λ words. words ≡ options) rule_options

-- the options of `certify` after the folder: those for the rules, with or without `--replace` before them
abbrev pub certify_options : List (List Text)
certify_options = rule_options ++ map (λ options. codes "--replace" ∷ options) rule_options

-- the program's name, `certify`, `--out-dir` and a folder, other options, a width and a height, and one or more names; no
-- name is `stdin`, and neither the folder nor a name begins with a hyphen
pub record AreCertifyWords (words : List Text) : Type 0 where
  pub program : Text
  pub folder : Text
  pub options : List Text
  pub wide : Text
  pub high : Text
  pub name : Text
  pub names : List Text
  pub are : words ≡ program ∷ codes "certify" ∷ codes "--out-dir" ∷ folder ∷ (options ++ wide ∷ high ∷ name ∷ names)
  pub plain : All IsPlainWord (folder ∷ name ∷ names)
  pub sides : IsSideText wide × IsSideText high
  pub none : HasNoInput (name ∷ names)
  pub right : Any (λ words. words ≡ options) certify_options

-- words are right for a command, or for the version
abbrev pub AreCommandWords : List Text → Type 0
AreCommandWords words = AreRightWords words ⊎ (AreInfoWords words ⊎ (AreCertifyWords words ⊎ AreVersionWords words))

-- clap accepts the words, in whatever order, and what they give is right: the arguments of a command on one file, of
-- `info`, or of `certify`
pub record AreAccepted (words : List Text) : Type 0 where
  pub taken : takes metaplay_app words ≡ true
  pub right :
      (IsRightCommand (subcommand_of metaplay_app words) × IsNoBatch (subcommand_of metaplay_app words))
      ⊎ (AsksRightInfo (subcommand_of metaplay_app words) ⊎ AsksRightCertify (subcommand_of metaplay_app words))

-- the texts of borrowed names
abbrev pub names_in : List (Bor (List ℕ)) → List Text
names_in names = map (λ name. name.now) names

-- a statement holds for names and a task that the words give; no more names are the word for standard input than the
-- task may read, and its sizes are valid
pub record HoldsOfNames (words : List Text) (holds : List Text → BatchTask → Type 0) : Type 0 where
  pub names : List Text
  pub task : BatchTask
  pub inputs : HasRightInputs task names
  pub dimensions : HasTaskDimensions task
  pub asked : AsksBatchByWords words names task
  pub fact : holds names task

-- a statement holds for some such names and task
pub record HoldsOfSomeNames (holds : List Text → BatchTask → Type 0) : Type 0 where
  pub names : List Text
  pub task : BatchTask
  pub inputs : HasRightInputs task names
  pub dimensions : HasTaskDimensions task
  pub fact : holds names task
