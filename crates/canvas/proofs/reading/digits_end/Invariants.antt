use Rattle.std.proofs.Common.{◌≡◌, ◌≤◌, ◌+◌, ◌-◌, drop, length}
use Rattle.std.specs.List.{prefix_len}
use Rattle.std.specs.Char.{is_ascii_digit}
use Rattle.canvas.proofs.reading.digits_end.Given as goal

-- the digits so far, and those from here on, are all of them
abbrev pub invariant-loop-at : goal.invariant-loop-at
invariant-loop-at l = record {
  within : l.at ≤ length l.bytes;
  digits : l.at + prefix_len is_ascii_digit (drop l.at l.bytes) ≡ l.from + prefix_len is_ascii_digit (drop l.from l.bytes);
}

abbrev pub decreases-loop-at : goal.decreases-loop-at
decreases-loop-at l = length l.bytes - l.at
