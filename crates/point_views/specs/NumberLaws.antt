-- Numbers in a prefix of some bytes.
use Rattle.std.specs.Prelude.{◌≡◌, ℕ, ◌+◌, ◌≤◌, List, take}
use Rattle.point_views.specs.Numbers.{number_at}

-- a number that lies in a prefix of some bytes reads the same there as in all of them
abbrev pub ReadsWithinPrefix : Type 0
ReadsWithinPrefix = (bytes : List ℕ) (place size n : ℕ) → place + size ≤ n → number_at (take n bytes) place size ≡ number_at bytes place size
