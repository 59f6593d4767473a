-- The names of faults by their codes.
use Rattle.std.specs.Prelude.{◌≡◌, ℕ, List, Option, Some, None}
use Rattle.draw_ops.specs.FaultTable.{fault_row}
use Rattle.draw_ops.specs.declared.fault.Fault.{Fault}
use Rattle.buffer_calls.specs.Texts.{EndsText}
use Rattle.buffer_calls.specs.declared.outcome.Outcome.{Outcome}

-- the name of a fault with this code
pub record IsNameOf (code : ℕ) (name : List ℕ) : Type 0 where
  pub fault : Fault
  pub has_code : (fault_row fault).code ≡ code
  pub has_name : name ≡ (fault_row fault).name

-- no fault has this code
abbrev pub IsNoCode : ℕ → Type 0
IsNoCode code = (fault : Fault) → (fault_row fault).code ≡ code → ⊥

-- How the call ends that copies the name of the fault with a code to a buffer. If no fault has the code, the buffer is
-- unchanged.
abbrev pub EndsName : ℕ → List ℕ → List ℕ → Option Outcome → Type 0
EndsName code old new (Some outcome) = EndsText (IsNameOf code) old new outcome
EndsName code old new None = IsNoCode code × (new ≡ old)
