-- Coordinates along an axis.
use Rattle.std.specs.Prelude.{◌≡◌, ℕ, ◌+◌, ◌^◌, ℤ, pos, negsuc, ◌+ℤ◌, ◌-ℤ◌, ◌*ℤ◌, neg_ℤ, ◌≤ℤ◌, Bool, if◌then◌else◌}

-- the coordinate after this many steps forwards, or backwards
abbrev pub ahead : Bool → ℤ → ℕ → ℤ
ahead forwards u step = if forwards then u +ℤ pos step else u -ℤ pos step

-- a coordinate within the limit of placed ones, or one beyond it
pub record IsPlace (v : ℤ) : Type 0 where
  pub low : negsuc (2 ^ 28) ≤ℤ v
  pub high : v ≤ℤ pos (2 ^ 28 + 1)

-- The progress of a line along its minor axis after this many steps: the floor of (2 * step * short + long) / (2 *
-- long), and the remainder. It is at most the progress along the major axis.
pub record IsOffset (long : ℕ) (short : ℤ) (step : ℕ) (across rest : ℤ) : Type 0 where
  pub divided : pos 2 *ℤ (pos step *ℤ short) +ℤ pos long ≡ pos 2 *ℤ (pos long *ℤ across) +ℤ rest
  pub least : neg_ℤ (pos step) ≤ℤ across
  pub most : across ≤ℤ pos step
