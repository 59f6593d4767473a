-- What a task on several files writes, and what it reports.
use Rattle.std.specs.Prelude.{◌≡◌, ◌≢◌, ◌++◌, ℕ, Bool, List, [], ◌∷◌, Option, None, MatchOption, codes, flat_map, fold, if◌then◌else◌, nat_lt, true}
use Rattle.std.specs.Borrow.{Bor}
use Rattle.std.specs.List.{AllZip}
use Rattle.command_lines.specs.BatchWords.{names_in}
use Rattle.command_lines.specs.declared.asked.BatchTask.{BatchTask}
use Rattle.command_lines.specs.declared.asked.BatchTask.TheVariants.{Certify, Info}
use Rattle.commands.specs.CertifyLines.{IsCertifyLine, failed_line}
use Rattle.commands.specs.Ends.{WritesPrefix, WritesText}
use Rattle.commands.specs.InfoLines.{IsInfoLine, unread_line}
use Rattle.commands.specs.Report.{PrintsNothing, Printed, Reports}
use Rattle.commands.specs.Statuses.{status_of}
use Rattle.commands.specs.declared.command_end.CommandEnd.{CommandEnd}
use Rattle.commands.specs.declared.command_end.CommandEnd.TheVariants as end

-- A word of the command line that isn't UTF-8 is shown with U+FFFD for each wrong byte, and marked by a NUL at its end,
-- which no word has. This is how such a name is shown; other names have no mark.
abbrev pub IsMark : List ℕ → Option (List ℕ) → Type 0
IsMark name shown = MatchOption shown ((front : List ℕ) → name ≢ front ++ 0 ∷ []) (λ text. name ≡ text ++ 0 ∷ [])

-- why no file with such a name is opened
abbrev pub wrong_name : List ℕ
wrong_name = codes "the name is not UTF-8"

-- the line about a file with such a name, shown so
abbrev pub IsWrongNameLine : CommandEnd → BatchTask → List ℕ → List ℕ → Type 0
IsWrongNameLine end.CannotRead (Info rules) shown text = text ≡ unread_line rules shown wrong_name
IsWrongNameLine end.CannotRead (Certify rules width height folder replace) shown text = text ≡ failed_line shown None None wrong_name
IsWrongNameLine ending task shown text = ⊥

-- the line about a file with a name that has no mark
abbrev pub IsLineOf : CommandEnd → BatchTask → List ℕ → Option (List ℕ) → List ℕ → Type 0
IsLineOf ending (Info rules) name input text = IsInfoLine ending rules name input text
IsLineOf ending (Certify rules width height folder replace) name input text =
    IsCertifyLine ending (record { rules = rules; width = width; height = height; folder = folder.now }) name text

-- the line about a file with this name, which may have a mark
pub record IsLineBy (ending : CommandEnd) (task : BatchTask) (name : List ℕ) (input : Option (List ℕ)) (text : List ℕ) : Type 0 where
  pub shown : Option (List ℕ)
  pub marked : IsMark name shown
  pub line : MatchOption shown (IsLineOf ending task name input text) (λ it. IsWrongNameLine ending task it text)

-- a line, and how the work on its file ends
pub record BatchLine : Type 0 where
  pub text : List ℕ
  pub end : CommandEnd

-- the end with the higher status, or the first if both have the same
abbrev pub worse : CommandEnd → CommandEnd → CommandEnd
worse first second = if nat_lt (status_of first) (status_of second) then second else first

-- how the worst of the lines ends
abbrev pub worst : List BatchLine → CommandEnd
worst lines = fold (λ so_far line. worse so_far line.end) end.Done lines

-- the text of lines about the files with these names, in order, if the worst of them ends so
pub record IsTextAbout (task : BatchTask) (input : Option (List ℕ)) (names : List (List ℕ)) (ending : CommandEnd) (text : List ℕ) : Type 0 where
  pub lines : List BatchLine
  pub each : AllZip (λ name line. IsLineBy line.end task name input line.text) names lines
  pub ends : ending ≡ worst lines
  pub joined : text ≡ flat_map (λ line. line.text) lines

-- the text of lines about the first of these files
pub record IsTextAboutFirst (task : BatchTask) (input : Option (List ℕ)) (names : List (List ℕ)) (text : List ℕ) : Type 0 where
  pub first : List (List ℕ)
  pub rest : List (List ℕ)
  pub are : names ≡ first ++ rest
  pub ending : CommandEnd
  pub about : IsTextAbout task input first ending text

-- What a task on several files writes to its output: a line for each file; lines about the first of them if memory ran
-- out, or a prefix of such lines if the output failed.
abbrev pub BatchWrites : CommandEnd → List (List ℕ) → BatchTask → Option (List ℕ) → Option (List ℕ) → Option (List ℕ) → Type 0
BatchWrites end.CannotWrite names task input old new = WritesPrefix (IsTextAboutFirst task input names) old new
BatchWrites end.OutOfMemory names task input old new = WritesText (IsTextAboutFirst task input names) old new
BatchWrites end.WrongUsage names task input old new = ⊥
BatchWrites end.Help names task input old new = ⊥
BatchWrites end.OutIsFile names task input old new = ⊥
BatchWrites ending names task input old new = WritesText (IsTextAbout task input names ending) old new

-- What it reports on standard error: nothing if all files were read and all certificates are there, otherwise one line.
abbrev pub BatchPrints : CommandEnd → Printed → Option (List ℕ) → Option (List ℕ) → Type 0
BatchPrints end.CannotRead printed old new = Reports printed old new (codes "cannot read")
BatchPrints end.CannotStore printed old new = Reports printed old new (codes "cannot write")
BatchPrints end.CannotWrite printed old new = Reports printed old new (codes "cannot write")
BatchPrints end.OutOfMemory printed old new = Reports printed old new (codes "OutOfMemory")
BatchPrints ending printed old new = PrintsNothing printed old new

module _ {W : Type 0} where
  -- what a task on several files writes to a writer with these contents, and what it reports on one
  abbrev pub WritesBatch : List (Bor (List ℕ)) → BatchTask → Option (List ℕ) → CommandEnd → (W → Option (List ℕ)) → W → W → Type 0
  WritesBatch names task input ending contents old new = BatchWrites ending (names_in names) task input (contents old) (contents new)

  abbrev pub PrintsBatch : CommandEnd → Printed → (W → Option (List ℕ)) → W → W → Type 0
  PrintsBatch ending printed contents old new = BatchPrints ending printed (contents old) (contents new)

  -- the output was flushed after the last byte, unless it failed or an allocation did
  abbrev pub FlushesBatch : CommandEnd → (W → Bool) → W → Type 0
  FlushesBatch ending flushed new = ending ≢ end.CannotWrite → ending ≢ end.OutOfMemory → flushed new ≡ true
