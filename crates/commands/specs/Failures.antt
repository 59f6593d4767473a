-- Why a task fails, and how it ends.
use Rattle.std.specs.Prelude.{◌≡◌, ℕ, List, Option, Result, Ok, Err, codes, ⊤}
use Rattle.std.specs.Io.KnownBytes.{Keeps}
use Rattle.draw_ops.specs.declared.fault.Fault.TheVariants as fault
use Rattle.preflight_cert.specs.Refusal.{refusal_text}
use Rattle.preflight_cert.specs.declared.refusal.Refusal.{Refusal}
use Rattle.commands.specs.Ends.{IsRejectedBy, IsTextOf, WritesPrefix, WritesRejected}
use Rattle.commands.specs.Report.{Reports, PrintsNothing, Printed}
use Rattle.commands.specs.Tasks.{Task}
use Rattle.commands.specs.declared.command_end.CommandEnd.{CommandEnd}
use Rattle.commands.specs.declared.command_end.CommandEnd.TheVariants as end
use Rattle.commands.specs.declared.failure.Failure.{Failure}
use Rattle.commands.specs.declared.failure.Failure.TheVariants.{CannotWrite, OutOfMemory, Rejected}

-- how a task ends that is done or that fails for this reason
abbrev pub ending_of : Result ⊤ Failure → CommandEnd
ending_of (Ok _) = end.Done
ending_of (Err (Rejected r)) = end.Rejected
ending_of (Err CannotWrite) = end.CannotWrite
ending_of (Err OutOfMemory) = end.OutOfMemory

-- what is reported for a task: nothing if it is done, otherwise the line for the reason
abbrev pub PrintsEnding : Result ⊤ Failure → Printed → Option (List ℕ) → Option (List ℕ) → Type 0
PrintsEnding (Ok _) printed old new = PrintsNothing printed old new
PrintsEnding (Err (Rejected r)) printed old new = Reports printed old new (refusal_text r)
PrintsEnding (Err CannotWrite) printed old new = Reports printed old new (codes "cannot write")
PrintsEnding (Err OutOfMemory) printed old new = Reports printed old new (codes "OutOfMemory")

-- the failure for a rejection; out of memory is a failure of its own
abbrev pub IsFailureOf : Refusal → Failure → Type 0
IsFailureOf r (Rejected other) = (other ≡ r) × (r.fault ≡ fault.OutOfMemory → ⊥)
IsFailureOf r CannotWrite = ⊥
IsFailureOf r OutOfMemory = r.fault ≡ fault.OutOfMemory

-- A task fails for this reason: it is rejected and has written what a rejected task writes; or it has written a prefix
-- of its text; or an allocation failed and it has written nothing.
abbrev pub Fails : Task → Failure → Option (List ℕ) → Option (List ℕ) → Type 0
Fails task (Rejected r) old new = IsRejectedBy task r.number r.fault × WritesRejected task old new
Fails task CannotWrite old new = WritesPrefix (IsTextOf task) old new
Fails task OutOfMemory old new = Keeps old new

-- a task may fail for this reason: a rejection is its own
abbrev pub IsReasonOf : Task → Failure → Type 0
IsReasonOf task (Rejected r) = IsRejectedBy task r.number r.fault
IsReasonOf task CannotWrite = ⊤
IsReasonOf task OutOfMemory = ⊤

module _ {W : Type 0} where
  -- a task fails for this reason, with this written to a writer with these contents
  abbrev pub FailsWith : Task → (W → Option (List ℕ)) → W → W → Failure → Type 0
  FailsWith task contents old new failure = Fails task failure (contents old) (contents new)
