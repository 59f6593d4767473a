use Rattle.std.proofs.Common.{◌≡◌, min, take}
use Rattle.canvas.specs.PpmReading.{number_of_digits}
use Rattle.canvas.proofs.reading.value_of.Given as goal

-- the number of the digits so far
abbrev pub invariant-loop-digit : goal.invariant-loop-digit
invariant-loop-digit l = l.value ≡ min (number_of_digits (take l.digit-index l.digits)) 9999
