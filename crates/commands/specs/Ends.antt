-- What a task writes to its output and to standard error, by how it ends.
use Rattle.std.specs.Prelude.{◌⊎◌, ℕ, List, Option, codes}
use Rattle.std.specs.Io.KnownBytes.{Appends, Keeps}
use Rattle.draw_ops.specs.declared.fault.Fault.{Fault}
use Rattle.canvas.specs.Ppm.{AppendsPrefix}
use Rattle.preflight_cert.specs.Answer.{IsAnswer, rejects}
use Rattle.preflight_cert.specs.Preparation.{Prepares}
use Rattle.preflight_cert.specs.Refusal.{refusal_text}
use Rattle.preflight_cert.specs.Run.{Rejected, white}
use Rattle.preflight_cert.specs.declared.refusal.Refusal.{Refusal}
use Rattle.player.specs.Bands.{IsRunText}
use Rattle.commands.specs.CheckReport.{ReportsAccepted, ReportsRejected}
use Rattle.commands.specs.Images.{IsPlayedOverText, IsPlayedText, RejectsOver, RejectsPlay}
use Rattle.commands.specs.Listings.{IsListing, Lists}
use Rattle.commands.specs.Report.{Reports, PrintsNothing, Printed}
use Rattle.commands.specs.Tasks.{Task, check, list, over, play, prepare, show}
use Rattle.listing.specs.declared.listing_end.ListingEnd.TheVariants.{Broken, Ended}
use Rattle.commands.specs.declared.command_end.Completion.{Completion}
use Rattle.commands.specs.declared.command_end.CommandEnd.{CommandEnd}
use Rattle.commands.specs.declared.command_end.CommandEnd.TheVariants as end

-- The text that a task writes when it is done: the image that the file's run makes on white, the prepared certificate,
-- the report of an accepted one, or the listing of records that end with an end record.
abbrev pub IsDoneBy : Task → List ℕ → Type 0
IsDoneBy (show rules file width height) text = IsRunText rules file width height (white width height) text
IsDoneBy (prepare rules file width height) text = Prepares rules file width height text
IsDoneBy (check file certificate) text = ReportsAccepted file certificate text
IsDoneBy (play file certificate width height) text = IsPlayedText file certificate width height (white width height) text
IsDoneBy (over file certificate image) text = IsPlayedOverText file certificate image text
IsDoneBy (list rules file) text = Lists rules file Ended text

-- The fault by which a task is rejected, in a record or in none. A listing reports faults itself, and is never
-- rejected.
abbrev pub IsRejectedBy : Task → Option ℕ → Fault → Type 0
IsRejectedBy (show rules file width height) number fault = Rejected rules file width height number fault
IsRejectedBy (prepare rules file width height) number fault = Rejected rules file width height number fault
IsRejectedBy (check file certificate) number fault = IsAnswer file certificate (rejects number fault)
IsRejectedBy (play file certificate width height) number fault = RejectsPlay file certificate width height number fault
IsRejectedBy (over file certificate image) number fault = RejectsOver file certificate image number fault
IsRejectedBy (list rules file) number fault = ⊥

-- a text that a task writes if its output accepts it: that of a task that is done, or of a rejected check or listing
abbrev pub IsTextOf : Task → List ℕ → Type 0
IsTextOf (check file certificate) text = ReportsAccepted file certificate text ⊎ ReportsRejected file certificate text
IsTextOf (list rules file) text = IsListing rules file text
IsTextOf task text = IsDoneBy task text

-- a text with some property was written
pub record WritesText (holds : List ℕ → Type 0) (old new : Option (List ℕ)) : Type 0 where
  pub text : List ℕ
  pub fact : holds text
  pub written : Appends old new text

-- a prefix of a text with some property was written
pub record WritesPrefix (holds : List ℕ → Type 0) (old new : Option (List ℕ)) : Type 0 where
  pub text : List ℕ
  pub fact : holds text
  pub written : AppendsPrefix old new text

-- what a rejected task has written: a check its report, a listing the lines of records that break, any other task
-- nothing
abbrev pub WritesRejected : Task → Option (List ℕ) → Option (List ℕ) → Type 0
WritesRejected (check file certificate) old new = WritesText (ReportsRejected file certificate) old new
WritesRejected (list rules file) old new = WritesText (Lists rules file Broken) old new
WritesRejected task old new = Keeps old new

-- What a task has written to its output: its text and nothing else; a prefix of it if the output failed; nothing if an
-- allocation failed. It doesn't end in any other way.
abbrev pub WritesBy : CommandEnd → Task → Option (List ℕ) → Option (List ℕ) → Type 0
WritesBy end.Done task old new = WritesText (IsDoneBy task) old new
WritesBy end.Rejected task old new = WritesRejected task old new
WritesBy end.CannotWrite task old new = WritesPrefix (IsTextOf task) old new
WritesBy end.OutOfMemory task old new = Keeps old new
WritesBy end.WrongUsage task old new = ⊥
WritesBy end.Help task old new = ⊥
WritesBy end.OutIsFile task old new = ⊥
WritesBy end.CannotRead task old new = ⊥
WritesBy end.CannotStore task old new = ⊥

-- the line for the task's rejection was reported
pub record PrintsRefusal (task : Task) (printed : Printed) (old new : Option (List ℕ)) : Type 0 where
  pub refusal : Refusal
  pub rejected : IsRejectedBy task refusal.number refusal.fault
  pub reported : Reports printed old new (refusal_text refusal)

-- what a rejected task reports on standard error: a check and a listing nothing, any other task its rejection
abbrev pub PrintsRejected : Task → Printed → Option (List ℕ) → Option (List ℕ) → Type 0
PrintsRejected (check file certificate) printed old new = PrintsNothing printed old new
PrintsRejected (list rules file) printed old new = PrintsNothing printed old new
PrintsRejected task printed old new = PrintsRefusal task printed old new

-- What a task reports on standard error: nothing if it is done, otherwise one line.
abbrev pub PrintsBy : CommandEnd → Task → Printed → Option (List ℕ) → Option (List ℕ) → Type 0
PrintsBy end.Done task printed old new = PrintsNothing printed old new
PrintsBy end.Rejected task printed old new = PrintsRejected task printed old new
PrintsBy end.CannotWrite task printed old new = Reports printed old new (codes "cannot write")
PrintsBy end.OutOfMemory task printed old new = Reports printed old new (codes "OutOfMemory")
PrintsBy end.WrongUsage task printed old new = ⊥
PrintsBy end.Help task printed old new = ⊥
PrintsBy end.OutIsFile task printed old new = ⊥
PrintsBy end.CannotRead task printed old new = ⊥
PrintsBy end.CannotStore task printed old new = ⊥

module _ {W : Type 0} where
  -- a text with some property, or a prefix of one, was written to a writer with these contents
  abbrev pub WritesWith : (List ℕ → Type 0) → (W → Option (List ℕ)) → W → W → Type 0
  WritesWith holds contents old new = WritesText holds (contents old) (contents new)

  abbrev pub WritesPrefixWith : (List ℕ → Type 0) → (W → Option (List ℕ)) → W → W → Type 0
  WritesPrefixWith holds contents old new = WritesPrefix holds (contents old) (contents new)

  -- a task is done, and its text was written to a writer with these contents
  abbrev pub WritesDone : Task → (W → Option (List ℕ)) → W → W → Type 0
  WritesDone task contents old new = WritesText (IsDoneBy task) (contents old) (contents new)

  -- what a task has written to a writer with these contents, and what it has reported on it, by how it ends
  abbrev pub Writes : Task → Completion → (W → Option (List ℕ)) → W → W → Type 0
  Writes task answer contents old new = WritesBy answer.end task (contents old) (contents new)

  abbrev pub Prints : Task → Completion → (W → Option (List ℕ)) → W → W → Type 0
  Prints task answer contents old new = PrintsBy answer.end task answer.printed (contents old) (contents new)
