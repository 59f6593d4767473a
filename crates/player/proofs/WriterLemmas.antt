-- Errors that only the writer causes.
use Rattle.std.proofs.Common.{◌≡◌, ℕ, Result, Ok, Err, inr, ap}
use Rattle.std.specs.Prelude.{IfErr, OnErr}
use Rattle.draw_ops.specs.declared.fault.Fault.{Fault}
use Rattle.draw_ops.specs.declared.fault.Fault.TheVariants.{WriteFault}
use Rattle.player.specs.Bands.{IsWriteFault}
use Rattle.player.specs.Bounds.{IsBandFault}

-- a write fault is one of the faults of bands
pub rejected_by_writer : (result : Result ℕ Fault) → IfErr result (λ fault. fault ≡ WriteFault) → IfErr result IsBandFault
rejected_by_writer (Ok writes) h = h
rejected_by_writer (Err fault) h = inr (inr h)

-- it is no other fault of bands
pub unless_written : (Kept : Type 0) (result : Result ℕ Fault) → IfErr result (λ fault. fault ≡ WriteFault) → (IsWriteFault result → ⊥) → OnErr result Kept
unless_written Kept (Ok writes) h not = h
unless_written Kept (Err fault) h not = absurd (not (ap (λ (f : Fault). Err f) h))
