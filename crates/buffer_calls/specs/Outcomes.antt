-- Outcomes of rejections.
use Rattle.std.specs.Prelude.{◌≡◌}
use Rattle.draw_ops.specs.declared.fault.Fault.TheVariants as fault
use Rattle.preflight_cert.specs.declared.refusal.Refusal.{Refusal}
use Rattle.buffer_calls.specs.declared.outcome.Outcome.{Outcome}
use Rattle.buffer_calls.specs.declared.outcome.Outcome.TheVariants.{Done, OutOfMemory, Rejected, TooShort}

-- the outcome for a rejection; out of memory is an outcome of its own
abbrev pub IsOutcomeOf : Refusal → Outcome → Type 0
IsOutcomeOf r (Done count) = ⊥
IsOutcomeOf r (TooShort count) = ⊥
IsOutcomeOf r (Rejected other) = (other ≡ r) × (r.fault ≡ fault.OutOfMemory → ⊥)
IsOutcomeOf r OutOfMemory = r.fault ≡ fault.OutOfMemory
