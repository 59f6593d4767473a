-- The faults in the order of their codes.
use Rattle.std.proofs.Common.{◌≡◌, ◌<◌, ℕ, zero, suc, ◌+◌, Bool, true, ◌&&◌, ◌==◌, List, [], ◌∷◌, length, get_or, arith}
use Rattle.std.proofs.lemmas.Bool.{and_parts, eqb-true}
use Rattle.draw_ops.specs.FaultTable.{fault_row}
use Rattle.draw_ops.specs.declared.fault.Fault.{Fault}

-- whether the codes of some faults count on from this number
abbrev pub count_from : ℕ → List Fault → Bool
count_from first [] = true
count_from first (fault ∷ later) = (fault_row fault).code == first && count_from (suc first) later

-- the code of the fault at an index
pub code_at : (faults : List Fault) (first i : ℕ) (other : Fault) → count_from first faults ≡ true → i < length faults
    → (fault_row (get_or faults i other)).code ≡ first + i
code_at [] first i other counted within = absurd (omega (arith, within))
code_at (fault ∷ later) first zero other counted within =
    let here = eqb-true _ _ (and_parts ((fault_row fault).code == first) (count_from (suc first) later) counted).0 in omega (arith, here)
code_at (fault ∷ later) first (suc i) other counted within =
    let rest = code_at later (suc first) i other (and_parts ((fault_row fault).code == first) (count_from (suc first) later) counted).1 (omega (arith, within)) in
    omega (arith, rest)
