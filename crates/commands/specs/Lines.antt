-- What the command of a command line writes to its streams.
use Rattle.std.specs.Prelude.{◌≡◌, ◌⊎◌, ℕ, if◌then◌else◌, List, Option, Some, None, codes, ⊤}
use Rattle.std.specs.Str.{bytes_eq}
use Rattle.std.specs.Io.KnownBytes.{Keeps}
use Rattle.clap.specs.Words.{Text}
use Rattle.command_lines.specs.CommandLine.{HoldsOfAsked, texts_of}
use Rattle.command_lines.specs.HelpWords.{AsksHelp}
use Rattle.command_lines.specs.BatchWords.{AreAccepted, AreCommandWords, HoldsOfNames, HoldsOfSomeNames}
use Rattle.commands.specs.Ends.{PrintsBy, WritesBy}
use Rattle.commands.specs.BatchLines.{BatchPrints, BatchWrites}
use Rattle.commands.specs.Fitting.{asked_height, asked_width}
use Rattle.commands.specs.Inputs.{IsInput, standard_input}
use Rattle.commands.specs.Report.{Reports, PrintsNothing, Printed}
use Rattle.commands.specs.VersionLines.{VersionPrints, VersionWrites}
use Rattle.commands.specs.declared.program.Call.{Call}
use Rattle.command_lines.specs.VersionWords.{AreVersionWords}
use Rattle.command_lines.specs.Dimensions.{HoldsOfSome, file_of}
use Rattle.command_lines.specs.declared.asked.BatchTask.{BatchTask}
use Rattle.meta_headers.specs.Opening.{opened}
use Rattle.commands.specs.Tasks.{Task, check, list, over, play, prepare, show}
use Rattle.commands.specs.declared.command_end.Completion.{Completion}
use Rattle.commands.specs.declared.command_end.CommandEnd.{CommandEnd}
use Rattle.commands.specs.declared.command_end.CommandEnd.TheVariants as end
use Rattle.command_lines.specs.declared.asked.CommandLine.{CommandLine}
use Rattle.command_lines.specs.declared.asked.CommandLine.TheVariants.{Check, List as ListLine, Over, Play, Prepare, Show}
use Rattle.commands.specs.declared.inputs.Inputs.{Inputs}

-- a certificate is prepared of a named file
abbrev pub PreparesNamedFile : CommandLine → Type 0
PreparesNamedFile (Prepare name rules width height output) = name.now ≡ standard_input → ⊥
PreparesNamedFile line = ⊥

-- the names of the metafile and of the certificate that is prepared of it; standard input has no name
abbrev pub prepared_names : CommandLine → Option (Text × Text)
prepared_names (Prepare name rules width height output) = if bytes_eq name.now standard_input then None else Some (name.now, output.now)
prepared_names line = None

-- the task of a command line, if its file, certificate and image have these bytes
abbrev pub task_of : CommandLine → List ℕ → List ℕ → List ℕ → Task
task_of (Show name rules width height fit) file certificate image =
    show rules file (asked_width fit (opened file) width height) (asked_height fit (opened file) width height)
task_of (Prepare name rules width height output) file certificate image = prepare rules file width height
task_of (Check name other) file certificate image = check file certificate
task_of (Play name other width height bands fit) file certificate image =
    play file certificate (asked_width fit (opened file) width height) (asked_height fit (opened file) width height)
task_of (Over name other third) file certificate image = over file certificate image
task_of (ListLine name rules) file certificate image = list rules file

-- what a command line's task writes to standard output: a prepared certificate writes nothing there, because it goes to
-- a file
abbrev pub LineWrites : CommandLine → Task → CommandEnd → Option (List ℕ) → Option (List ℕ) → Type 0
LineWrites (Prepare name rules width height output) task end old new = Keeps old new
LineWrites line task end old new = WritesBy end task old new

-- the task of a command line wrote this to standard output, for some bytes of its inputs
pub record LeavesOut (line : CommandLine) (input : Option (List ℕ)) (end : CommandEnd) (old new : Option (List ℕ)) : Type 0 where
  pub file : List ℕ
  pub certificate : List ℕ
  pub image : List ℕ
  pub read : IsInput (file_of line) input file
  pub written : LineWrites line (task_of line file certificate image) end old new

-- the task of a command line reported this on standard error, for some bytes of its inputs
pub record LeavesErr (line : CommandLine) (input : Option (List ℕ)) (end : CommandEnd) (printed : Printed) (old new : Option (List ℕ)) : Type 0 where
  pub file : List ℕ
  pub certificate : List ℕ
  pub image : List ℕ
  pub read : IsInput (file_of line) input file
  pub prints : PrintsBy end (task_of line file certificate image) printed old new

-- What a command line writes to standard output, by how it ends: nothing if an input can't be read, an allocation
-- failed, or OUT is FILE. Its words are right, so it never ends as wrong usage or help.
abbrev pub OutBy : CommandEnd → CommandLine → Option (List ℕ) → Option (List ℕ) → Option (List ℕ) → Type 0
OutBy end.Done line input old new = LeavesOut line input end.Done old new
OutBy end.Rejected line input old new = LeavesOut line input end.Rejected old new
OutBy end.CannotWrite line input old new = LeavesOut line input end.CannotWrite old new
OutBy end.CannotRead line input old new = Keeps old new
OutBy end.OutOfMemory line input old new = Keeps old new
OutBy end.OutIsFile line input old new = PreparesNamedFile line × Keeps old new
OutBy end.CannotStore line input old new = ⊥
OutBy end.WrongUsage line input old new = ⊥
OutBy end.Help line input old new = ⊥

-- What a command line reports on standard error, by how it ends.
abbrev pub ErrBy : CommandEnd → CommandLine → Option (List ℕ) → Printed → Option (List ℕ) → Option (List ℕ) → Type 0
ErrBy end.Done line input printed old new = PrintsNothing printed old new
ErrBy end.Rejected line input printed old new = LeavesErr line input end.Rejected printed old new
ErrBy end.CannotWrite line input printed old new = Reports printed old new (codes "cannot write")
ErrBy end.CannotRead line input printed old new = Reports printed old new (codes "cannot read")
ErrBy end.OutOfMemory line input printed old new = Reports printed old new (codes "OutOfMemory")
ErrBy end.OutIsFile line input printed old new = PreparesNamedFile line × Reports printed old new (codes "OUT is FILE")
ErrBy end.CannotStore line input printed old new = ⊥
ErrBy end.WrongUsage line input printed old new = ⊥
ErrBy end.Help line input printed old new = ⊥

-- something holds for what the words ask for: a command on one file, a task on several, or the version
abbrev pub HoldsOfWords : List Text → (CommandLine → Type 0) → (List Text → BatchTask → Type 0) → Type 0 → Type 0
HoldsOfWords words of_line of_names of_version = HoldsOfAsked words of_line ⊎ (HoldsOfNames words of_names ⊎ (AreVersionWords words × of_version))

-- something holds for one of these
abbrev pub HoldsOfAny : (CommandLine → Type 0) → (List Text → BatchTask → Type 0) → Type 0 → Type 0
HoldsOfAny of_line of_names of_version = HoldsOfSome of_line ⊎ (HoldsOfSomeNames of_names ⊎ of_version)

-- What the program writes to standard output for its words: nothing if they are wrong usage, the help if they ask for
-- that, whatever its text, and otherwise what the command that they ask for writes. If an allocation failed, only a task on several
-- files may have written something.
abbrev pub OutOfWords : CommandEnd → List Text → Option (List ℕ) → List ℕ → Option (List ℕ) → Option (List ℕ) → Type 0
OutOfWords end.WrongUsage words input version old new = Keeps old new
OutOfWords end.Help words input version old new = ⊤
OutOfWords end.OutOfMemory words input version old new = Keeps old new ⊎ HoldsOfNames words (λ names task. BatchWrites end.OutOfMemory names task input old new)
OutOfWords end words input version old new =
    HoldsOfWords words (λ line. OutBy end line input old new) (λ names task. BatchWrites end names task input old new) (VersionWrites end version old new)

-- What the program reports on standard error for its words: what is wrong with them, whatever the text; nothing beside
-- help; and otherwise what the command that they ask for reports.
abbrev pub ErrOfWords : CommandEnd → List Text → Option (List ℕ) → Printed → Option (List ℕ) → Option (List ℕ) → Type 0
ErrOfWords end.WrongUsage words input printed old new = ⊤
ErrOfWords end.Help words input printed old new = Keeps old new
ErrOfWords end.OutOfMemory words input printed old new = Reports printed old new (codes "OutOfMemory")
ErrOfWords end words input printed old new =
    HoldsOfWords words (λ line. ErrBy end line input printed old new) (λ names task. BatchPrints end printed old new) (VersionPrints end printed old new)

-- what the program writes to standard output, or reports on standard error, for some words
abbrev pub OutOfSome : CommandEnd → Option (List ℕ) → List ℕ → Option (List ℕ) → Option (List ℕ) → Type 0
OutOfSome end.WrongUsage input version old new = Keeps old new
OutOfSome end.Help input version old new = ⊤
OutOfSome end.OutOfMemory input version old new = Keeps old new ⊎ HoldsOfSomeNames (λ names task. BatchWrites end.OutOfMemory names task input old new)
OutOfSome end input version old new =
    HoldsOfAny (λ line. OutBy end line input old new) (λ names task. BatchWrites end names task input old new) (VersionWrites end version old new)

abbrev pub ErrOfSome : CommandEnd → Option (List ℕ) → Printed → Option (List ℕ) → Option (List ℕ) → Type 0
ErrOfSome end.WrongUsage input printed old new = ⊤
ErrOfSome end.Help input printed old new = Keeps old new
ErrOfSome end.OutOfMemory input printed old new = Reports printed old new (codes "OutOfMemory")
ErrOfSome end input printed old new =
    HoldsOfAny (λ line. ErrBy end line input printed old new) (λ names task. BatchPrints end printed old new) (VersionPrints end printed old new)

-- the words prepare a certificate of a named file
abbrev pub PreparesNamed : Call → Type 0
PreparesNamed call = HoldsOfAsked (texts_of call.words.now) PreparesNamedFile

-- the words are right for a command, or clap accepts them, in whatever order, and what they give is right
abbrev pub HasRightWords : Call → Type 0
HasRightWords call = AreCommandWords (texts_of call.words.now) ⊎ AreAccepted (texts_of call.words.now)

-- clap may answer the words with help
abbrev pub CallsForHelp : Call → Type 0
CallsForHelp call = AsksHelp (texts_of call.words.now)

module _ {W : Type 0} where
  -- what a task, a command line, given words, or some words write to a writer with these contents
  abbrev pub TaskWrites : CommandLine → Inputs → Completion → (W → Option (List ℕ)) → W → W → Type 0
  TaskWrites line inputs answer contents old new =
      LineWrites line (task_of line inputs.file.items inputs.certificate.items inputs.image.items) answer.end (contents old) (contents new)

  abbrev pub WritesLine : CommandLine → Option (List ℕ) → Completion → (W → Option (List ℕ)) → W → W → Type 0
  WritesLine line input answer contents old new = OutBy answer.end line input (contents old) (contents new)

  abbrev pub WritesAsked : Call → Option (List ℕ) → Completion → (W → Option (List ℕ)) → W → W → Type 0
  WritesAsked call input answer contents old new =
      OutOfWords answer.end (texts_of call.words.now) input call.version.now (contents old) (contents new)

  abbrev pub WritesSome : Option (List ℕ) → List ℕ → Completion → (W → Option (List ℕ)) → W → W → Type 0
  WritesSome input version answer contents old new = OutOfSome answer.end input version (contents old) (contents new)

  -- what a task, a command line, given words, or some words report on a writer with these contents
  abbrev pub TaskPrints : CommandLine → Inputs → Completion → (W → Option (List ℕ)) → W → W → Type 0
  TaskPrints line inputs answer contents old new =
      PrintsBy answer.end (task_of line inputs.file.items inputs.certificate.items inputs.image.items) answer.printed (contents old) (contents new)

  abbrev pub PrintsLine : CommandLine → Option (List ℕ) → Completion → (W → Option (List ℕ)) → W → W → Type 0
  PrintsLine line input answer contents old new = ErrBy answer.end line input answer.printed (contents old) (contents new)

  abbrev pub PrintsAsked : Call → Option (List ℕ) → Completion → (W → Option (List ℕ)) → W → W → Type 0
  PrintsAsked call input answer contents old new =
      ErrOfWords answer.end (texts_of call.words.now) input answer.printed (contents old) (contents new)

  abbrev pub PrintsSome : Option (List ℕ) → Completion → (W → Option (List ℕ)) → W → W → Type 0
  PrintsSome input answer contents old new = ErrOfSome answer.end input answer.printed (contents old) (contents new)

  -- it is reported that OUT is FILE
  abbrev pub ReportsSameFile : Completion → (W → Option (List ℕ)) → W → W → Type 0
  ReportsSameFile answer contents old new = Reports answer.printed (contents old) (contents new) (codes "OUT is FILE")

  -- it is reported that an allocation failed
  abbrev pub PrintsMemory : Completion → (W → Option (List ℕ)) → W → W → Type 0
  PrintsMemory answer contents old new = Reports answer.printed (contents old) (contents new) (codes "OutOfMemory")
