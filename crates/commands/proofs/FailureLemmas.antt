-- How a task ends and what it writes, from whether it is done and why it fails.
use Rattle.std.proofs.Common.{◌≡◌, ◌⊎◌, inl, inr, ℕ, List, Option, Some, None, Result, Ok, Err, refl}
use Rattle.std.specs.Prelude.{IfErr, OnOk, ⊤}
use Rattle.std.specs.Io.KnownBytes.{Keeps}
use Rattle.draw_ops.specs.declared.fault.Fault.TheVariants as fault
use Rattle.preflight_cert.specs.Refusal.{IsWantOfMemory}
use Rattle.preflight_cert.specs.declared.refusal.Refusal.{Refusal}
use Rattle.commands.specs.Ends.{IsDoneBy, IsRejectedBy, PrintsBy, PrintsRefusal, PrintsRejected, WritesBy, WritesRejected, WritesText}
use Rattle.commands.specs.Failures.{Fails, IsFailureOf, IsReasonOf, PrintsEnding, ending_of}
use Rattle.commands.specs.Tasks.{Task}
use Rattle.commands.specs.declared.command_end.Completion.{Completion}
use Rattle.commands.specs.declared.command_end.CommandEnd.TheVariants as end
use Rattle.commands.specs.declared.failure.Failure.{Failure}
use Rattle.commands.specs.declared.failure.Failure.TheVariants.{CannotWrite, OutOfMemory, Rejected}

pub kept : (held : Option (List ℕ)) → Keeps held held
kept None = tt
kept (Some xs) = refl

-- what is written is what the reason for the failure says
pub written_by :
    (task : Task) (done : Result ⊤ Failure) (a : Completion) (old new : Option (List ℕ)) → a.end ≡ ending_of done → OnOk done (WritesText (IsDoneBy task) old new)
    → IfErr done (λ failure. Fails task failure old new) → WritesBy a.end task old new
written_by task (Ok u) a old new e done failed = rw e done
written_by task (Err (Rejected r)) a old new e done failed = rw e failed.1
written_by task (Err CannotWrite) a old new e done failed = rw e failed
written_by task (Err OutOfMemory) a old new e done failed = rw e failed

-- what is reported is what the reason for the failure says
pub printed_by :
    (task : Task) (done : Result ⊤ Failure) (a : Completion) (old new held now : Option (List ℕ)) → a.end ≡ ending_of done
    → IfErr done (λ failure. Fails task failure old new) → PrintsEnding done a.printed held now
    → (PrintsRefusal task a.printed held now → PrintsRejected task a.printed held now) → PrintsBy a.end task a.printed held now
printed_by task (Ok u) a old new held now e failed prints rejected = rw e prints
printed_by task (Err (Rejected r)) a old new held now e failed prints rejected = rw e (rejected (record { refusal = r; rejected = failed.0; reported = prints }))
printed_by task (Err CannotWrite) a old new held now e failed prints rejected = rw e prints
printed_by task (Err OutOfMemory) a old new held now e failed prints rejected = rw e prints

-- the same if only the reason is known
pub printed_for :
    (task : Task) (done : Result ⊤ Failure) (a : Completion) (held now : Option (List ℕ)) → a.end ≡ ending_of done
    → IfErr done (IsReasonOf task) → PrintsEnding done a.printed held now
    → (PrintsRefusal task a.printed held now → PrintsRejected task a.printed held now) → PrintsBy a.end task a.printed held now
printed_for task (Ok u) a held now e failed prints rejected = rw e prints
printed_for task (Err (Rejected r)) a held now e failed prints rejected = rw e (rejected (record { refusal = r; rejected = failed; reported = prints }))
printed_for task (Err CannotWrite) a held now e failed prints rejected = rw e prints
printed_for task (Err OutOfMemory) a held now e failed prints rejected = rw e prints

-- the reason for a rejection
pub reason_of : (task : Task) (r : Refusal) (failure : Failure) → (IsRejectedBy task r.number r.fault ⊎ IsWantOfMemory r) → IsFailureOf r failure → IsReasonOf task failure
reason_of task r (Rejected other) (inl rejected) by = rw by.0 rejected
reason_of task r (Rejected other) (inr want) by = absurd (by.1 want.fault)
reason_of task r CannotWrite h by = absurd by
reason_of task r OutOfMemory h by = tt

-- what holds if an allocation failed
pub holds_by :
    (done : Result ⊤ Failure) (a : Completion) (P : Type 0) → a.end ≡ ending_of done → IfErr done (λ failure. failure ≡ OutOfMemory → P)
    → a.end ≡ end.OutOfMemory → P
holds_by (Ok u) a P e h memory = cc
holds_by (Err (Rejected r)) a P e h memory = cc
holds_by (Err CannotWrite) a P e h memory = cc
holds_by (Err OutOfMemory) a P e h memory = h refl

-- what holds if the output failed
pub fails_by :
    (done : Result ⊤ Failure) (a : Completion) (P : Type 0) → a.end ≡ ending_of done → IfErr done (λ failure. failure ≡ CannotWrite → P)
    → a.end ≡ end.CannotWrite → P
fails_by (Ok u) a P e h failed = cc
fails_by (Err (Rejected r)) a P e h failed = cc
fails_by (Err CannotWrite) a P e h failed = h refl
fails_by (Err OutOfMemory) a P e h failed = cc

-- what holds if the task is done
pub done_by : (done : Result ⊤ Failure) (a : Completion) (P : Type 0) → a.end ≡ ending_of done → OnOk done P → a.end ≡ end.Done → P
done_by (Ok u) a P e h is = h
done_by (Err (Rejected r)) a P e h is = cc
done_by (Err CannotWrite) a P e h is = cc
done_by (Err OutOfMemory) a P e h is = cc

-- a rejection isn't a failed output
pub no_output : (r : Refusal) (failure : Failure) (P : Type 0) → IsFailureOf r failure → failure ≡ CannotWrite → P
no_output r (Rejected other) P by e = cc
no_output r CannotWrite P by e = absurd by
no_output r OutOfMemory P by e = cc

-- a rejection with nothing written
pub refusal_fails :
    (task : Task) (r : Refusal) (failure : Failure) (held : Option (List ℕ)) → (IsRejectedBy task r.number r.fault ⊎ IsWantOfMemory r)
    → WritesRejected task held held → IsFailureOf r failure → Fails task failure held held
refusal_fails task r (Rejected other) held (inl rejected) writes by = (rw by.0 rejected, writes)
refusal_fails task r (Rejected other) held (inr want) writes by = absurd (by.1 want.fault)
refusal_fails task r CannotWrite held h writes by = absurd by
refusal_fails task r OutOfMemory held h writes by = kept held

-- an allocation failed if that is the reason
pub is_want : (r : Refusal) (failure : Failure) → IsFailureOf r failure → failure ≡ OutOfMemory → r.fault ≡ fault.OutOfMemory
is_want r (Rejected other) by e = cc
is_want r CannotWrite by e = absurd by
is_want r OutOfMemory by e = by
