-- Walks along lines.
use Rattle.std.specs.Prelude.{◌≡◌, ℕ, ◌+◌, ◌*◌, ◌<◌, ◌≤◌, ℤ, pos, negsuc, ◌+ℤ◌, ◌-ℤ◌, ◌*ℤ◌, ◌≤ℤ◌, int_lt}
use Rattle.span_fill.specs.Axis.{ahead}
use Rattle.span_fill.specs.Strokes.{far}
use Rattle.span_fill.specs.declared.walk.Walk.{Walk}

-- what a walk keeps from step to step
pub record WalksOn (old new : Walk) : Type 0 where
  pub more : new.more ≡ old.more
  pub full : new.full ≡ old.full
  pub back : new.back ≡ old.back
  pub forwards : new.forwards ≡ old.forwards

-- a walk is one step further: if the remainder and what a step adds reach `full`, it is carried
pub record IsMoved (old new : Walk) : Type 0 where
  pub same : WalksOn old new
  pub u : new.u ≡ ahead old.forwards old.u 1
  pub kept : old.rest + old.more < old.full → (new.v ≡ old.v +ℤ old.back) × (new.rest ≡ old.rest + old.more)
  pub carried : old.full ≤ old.rest + old.more → (new.v ≡ old.v +ℤ old.back +ℤ pos 1) × (new.rest + old.full ≡ old.rest + old.more)

-- A walk from (u0, v0) towards (u1, v1), with u as the major axis, is at this step: u is the coordinate of that step,
-- and v - v0 and the remainder are those of (2 * step * short + long) / (2 * long).
pub record IsAt (u0 v0 u1 v1 : ℤ) (step : ℕ) (walk : Walk) : Type 0 where
  pub forwards : walk.forwards ≡ int_lt u0 u1
  pub u : walk.u ≡ ahead walk.forwards u0 step
  pub full : walk.full ≡ 2 * far u0 u1
  pub moves : pos walk.more ≡ pos 2 *ℤ (v1 -ℤ v0) -ℤ pos 2 *ℤ (pos (far u0 u1) *ℤ walk.back)
  pub more_within : walk.more ≤ walk.full
  pub back_low : negsuc 0 ≤ℤ walk.back
  pub back_high : walk.back ≤ℤ pos 0
  pub divided : pos 2 *ℤ (pos step *ℤ (v1 -ℤ v0)) +ℤ pos (far u0 u1) ≡ pos 2 *ℤ (pos (far u0 u1) *ℤ (walk.v -ℤ v0)) +ℤ pos walk.rest
  pub rest_below : walk.rest < walk.full
  pub v_low : (v0 -ℤ pos step) ≤ℤ walk.v
  pub v_high : walk.v ≤ℤ (v0 +ℤ pos step)
