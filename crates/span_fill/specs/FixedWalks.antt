-- Walks along lines in fixed point.
use Rattle.std.specs.Prelude.{◌≡◌, ℕ, ◌+◌, ◌*◌, ◌^◌, ◌<◌, ◌≤◌, pos, negsuc, ◌+ℤ◌, ◌-ℤ◌, ◌*ℤ◌, ◌≤ℤ◌, ◌<ℤ◌, true, false}
use Rattle.span_fill.specs.declared.fixed_walk.FixedWalk.{FixedWalk}
use Rattle.span_fill.specs.declared.walk.Walk.{Walk}

-- the coordinates are those of a surface's pixel
pub record IsOnSurface (walk : Walk) : Type 0 where
  pub u_low : pos 0 ≤ℤ walk.u
  pub u_high : walk.u <ℤ pos 8192
  pub v_low : pos 0 ≤ℤ walk.v
  pub v_high : walk.v <ℤ pos 8192

-- a position on a surface, on a line that is within the limits of lines
pub record CanWalk (walk : Walk) : Type 0 where
  pub on : IsOnSurface walk
  pub back_low : negsuc 0 ≤ℤ walk.back
  pub back_high : walk.back ≤ℤ pos 0
  pub rest : walk.rest < walk.full
  pub more : walk.more ≤ walk.full
  pub small : walk.full < 2 ^ 31

-- The position of a walk in fixed point: a fraction by `full` is one by 2^48, rounded up. After `steps - 1` steps it is
-- too great by less than `steps` parts of 2^48.
pub record IsFixed (steps : ℕ) (walk : Walk) (position : FixedWalk) : Type 0 where
  pub part : ℕ
  pub gain : ℕ
  pub u : position.u ≡ walk.u
  pub forwards : position.forwards ≡ walk.forwards
  pub at : position.at ≡ walk.v *ℤ pos (2 ^ 48) +ℤ pos part
  pub each : position.each ≡ walk.back *ℤ pos (2 ^ 48) +ℤ pos gain
  pub part_low : walk.rest * 2 ^ 48 ≤ part * walk.full
  pub part_high : part * walk.full ≤ walk.rest * 2 ^ 48 + steps * walk.full
  pub gain_low : walk.more * 2 ^ 48 ≤ gain * walk.full
  pub gain_high : gain * walk.full ≤ walk.more * 2 ^ 48 + walk.full

-- so many steps fit on a surface, from its edge to this position
pub record HasFew (steps : ℕ) (walk : Walk) : Type 0 where
  pub forwards : walk.forwards ≡ true → pos steps ≤ℤ (walk.u +ℤ pos 1)
  pub backwards : walk.forwards ≡ false → pos steps ≤ℤ (pos 8192 -ℤ walk.u)
