-- Answers in the form that C has.
use Rattle.std.specs.Prelude.{◌≡◌, ℕ, false, List, Option, Some, None, is_some, Result, Ok, Err}
use Rattle.proportions.specs.declared.fitting.Sides.{Sides}
use Rattle.draw_ops.specs.Fault.{record_kind_of}
use Rattle.draw_ops.specs.FaultTable.{fault_row}
use Rattle.draw_ops.specs.declared.fault.Fault.{Fault}
use Rattle.draw_ops.specs.declared.fault.Fault.TheVariants.{BadBound}
use Rattle.draw_ops.specs.RuleSets.{print_rules}
use Rattle.draw_ops.specs.declared.rules.Allowances.{Allowances}
use Rattle.preflight_cert.specs.declared.refusal.Refusal.{Refusal}
use Rattle.buffer_calls.specs.FaultNames.{EndsName}
use Rattle.buffer_calls.specs.Prepares.{EndsPrepare}
use Rattle.buffer_calls.specs.declared.outcome.Outcome.{Outcome}
use Rattle.buffer_calls.specs.declared.placed_rows.PlacedRows.{PlacedRows}
use Rattle.buffer_calls.specs.declared.terms.Terms.{Terms}
use Rattle.buffer_calls.specs.declared.outcome.Outcome.TheVariants.{Done, OutOfMemory, Rejected, TooShort}
use Rattle.metaplay_c.specs.declared.answers.Answer.{Answer}
use Rattle.metaplay_c.specs.declared.answers.CertificateTerms.{CertificateTerms}
use Rattle.metaplay_c.specs.declared.answers.SurfaceRows.{SurfaceRows}
use Rattle.metaplay_c.specs.declared.answers.SurfaceSides.{SurfaceSides}

-- the number, or 0 if there is none
abbrev number_or_0 : Option ℕ → ℕ
number_or_0 None = 0
number_or_0 (Some number) = number

-- an answer without a fault
abbrev pub plain_answer : ℕ → ℕ → Answer
plain_answer outcome length = record {
  outcome = outcome;
  fault = 0;
  record_number = 0;
  record_kind = 0;
  has_record_number = false;
  has_record_kind = false;
  length = length;
}

-- the answer for a rejection: the code of its fault, the number of its record and the kind that the fault refers to
abbrev pub rejected_answer : Refusal → Answer
rejected_answer r = record {
  outcome = 1;
  fault = (fault_row r.fault).code;
  record_number = number_or_0 r.number;
  record_kind = number_or_0 (record_kind_of r.fault);
  has_record_number = is_some r.number;
  has_record_kind = is_some (record_kind_of r.fault);
  length = 0;
}

-- the answer for an outcome
abbrev pub answer_of : Outcome → Answer
answer_of (Done count) = plain_answer 0 count
answer_of (TooShort count) = plain_answer 2 count
answer_of (Rejected r) = rejected_answer r
answer_of OutOfMemory = plain_answer 3 0

-- the answer for a fault's name: that of its outcome, or that there is no such fault
abbrev pub name_answer : Option Outcome → Answer
name_answer (Some outcome) = answer_of outcome
name_answer None = plain_answer 4 0

-- some rows of a surface, and where they lie in a buffer
abbrev pub rows_of : SurfaceRows → PlacedRows
rows_of rows = record {
  surface = record { width = rows.width; height = rows.height };
  layout = record { first = rows.first; count = rows.count; stride = rows.stride };
}

-- The answer is that for an outcome in which a call may end.
pub record Reports (ends : Outcome → Type 0) (answer : Answer) : Type 0 where
  pub outcome : Outcome
  pub fact : ends outcome
  pub same : answer ≡ answer_of outcome

-- The answer is that for preparing a certificate under the print profile with some of this allowed; if it isn't known what
-- is allowed, it is a rejection, and the buffer is unchanged.
abbrev pub ReportsPrepared : Option Allowances → List ℕ → ℕ → ℕ → List ℕ → List ℕ → Answer → Type 0
ReportsPrepared (Some allowed) file width height old new answer = Reports (EndsPrepare (print_rules allowed) file width height old new) answer
ReportsPrepared None file width height old new answer = (answer ≡ rejected_answer record { number = None; fault = BadBound }) × (new ≡ old)

-- The answer is that for copying the name of the fault with this code, if there is one, to a buffer.
pub record ReportsName (code : ℕ) (old new : List ℕ) (answer : Answer) : Type 0 where
  pub found : Option Outcome
  pub fact : EndsName code old new found
  pub same : answer ≡ name_answer found

-- The sides are those that fit, and the call is done; or it is rejected, and the sides are unchanged.
abbrev pub ReportsSides : Result Sides Fault → SurfaceSides → SurfaceSides → Answer → Type 0
ReportsSides (Ok fitted) old new answer = (answer ≡ plain_answer 0 0) × (new ≡ record { width = fitted.width; height = fitted.height })
ReportsSides (Err fault) old new answer = (answer ≡ rejected_answer record { number = None; fault = fault }) × (new ≡ old)

-- The terms are those of a certificate, and the call is done; or it is rejected, and the terms are unchanged.
abbrev pub ReportsTerms : Result Terms Fault → CertificateTerms → CertificateTerms → Answer → Type 0
ReportsTerms (Ok terms) old new answer =
    (answer ≡ plain_answer 0 0) × (new ≡ record { writes = terms.writes; max_width = terms.max_width; max_height = terms.max_height })
ReportsTerms (Err fault) old new answer = (answer ≡ rejected_answer record { number = None; fault = fault }) × (new ≡ old)
