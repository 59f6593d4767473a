-- What a command line asks for.
use Rattle.std.specs.Prelude.{◌≡◌, List, [], ◌∷◌, Option, codes}
use Rattle.clap.specs.Words.{Row, Text}
use Rattle.command_lines.specs.BatchWords.{AsksBatch, AsksBatchByWords, GivesFiles, HasRightInputs, HoldsBatch, batch_name, names_in}
use Rattle.command_lines.specs.CommandLine.{HasWords, IsAskedBy, IsAskedByWords, IsPlainWord}
use Rattle.command_lines.specs.Dimensions.{HasDimensions, HasTaskDimensions}
use Rattle.command_lines.specs.VersionWords.{AreVersionWords}
use Rattle.command_lines.specs.declared.asked.Asked.{Asked}
use Rattle.command_lines.specs.declared.asked.Asked.TheVariants.{Batch, Command, Version}

-- the parsed command is this: a command with the arguments that it was given, or a task with what it was given and the
-- names; the version isn't a command
abbrev pub IsFound : Option (Text × List Row) → Asked → Type 0
IsFound met (Command line) = IsAskedBy met line
IsFound met (Batch names task) = AsksBatch met (names_in names.items) task
IsFound met Version = ⊥

-- the task of the command with this name is asked for, with these names and what it was given, and nothing else is
abbrev pub HoldsNames : Text → List Row → Asked → Type 0
HoldsNames command given (Command line) = ⊥
HoldsNames command given (Batch names task) =
    (batch_name task ≡ command) × GivesFiles given (names_in names.items) × HoldsBatch given task
HoldsNames command given Version = ⊥

-- the words, the program's name first, ask for this
abbrev pub IsAskedFor : List Text → Asked → Type 0
IsAskedFor words (Command line) = IsAskedByWords words line
IsAskedFor words (Batch names task) = AsksBatchByWords words (names_in names.items) task
IsAskedFor words Version = AreVersionWords words

-- the sizes are valid, and no more of the names are the word for standard input than the task may read
abbrev pub IsValid : Asked → Type 0
IsValid (Command line) = HasDimensions line
IsValid (Batch names task) = HasRightInputs task (names_in names.items) × HasTaskDimensions task
IsValid Version = Unit

-- a command is asked for, `show` with this file name and the numbers of these texts, by the core profile
abbrev pub AsksShow : Text → Text → Text → Asked → Type 0
AsksShow file wide high (Command line) = HasWords file wide high line
AsksShow file wide high (Batch names task) = ⊥
AsksShow file wide high Version = ⊥

-- if the words are the program's name, `show` and three words that don't begin with a hyphen, the command line has
-- these three
abbrev pub HasPlainWords : List Text → Asked → Type 0
HasPlainWords words asked =
    (program file wide high : Text) → IsPlainWord file → IsPlainWord wide → IsPlainWord high
    → words ≡ program ∷ codes "show" ∷ file ∷ wide ∷ high ∷ [] → AsksShow file wide high asked
