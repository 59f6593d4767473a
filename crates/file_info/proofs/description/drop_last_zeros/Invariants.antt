use Rattle.std.proofs.Common.{◌≡◌, length}
use Rattle.file_info.specs.Description.{without_last_zeros}
use Rattle.file_info.proofs.description.drop_last_zeros.Given as goal

-- what remains has the same code units but for zeros at its end
abbrev pub invariant-loop-units : goal.invariant-loop-units
invariant-loop-units l = without_last_zeros l.units.items ≡ without_last_zeros l.fn.units.items

abbrev pub decreases-loop-units : goal.decreases-loop-units
decreases-loop-units l = length l.units.items
