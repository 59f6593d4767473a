use Rattle.std.proofs.Common.{◌≡◌, ◌-◌, ◌<◌, ◌≤◌, ℕ, length, get_or}
use Rattle.point_views.proofs.zeros.zero_words.Given as goal

-- the bytes so far are zeros
abbrev pub invariant-loop-count : goal.invariant-loop-count
invariant-loop-count l = record { within : l.count ≤ length l.bytes; zeros : (k : ℕ) → k < l.count → get_or l.bytes k 0 ≡ 0 }

abbrev pub decreases-loop-count : goal.decreases-loop-count
decreases-loop-count l = length l.bytes - l.count
