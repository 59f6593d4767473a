-- A walk in fixed point after one more step.
use Rattle.std.proofs.Common.{◌≡◌, ℕ, suc, ◌+◌, ◌-◌, ◌*◌, ◌^◌, ◌<◌, ◌≤◌, Bool, true, false, ℤ, pos, ◌+ℤ◌, ◌*ℤ◌, ◌≤ℤ◌, ◌<ℤ◌, arith, ap, refl, sym, ◌∙◌}
use Rattle.std.proofs.lemmas.Int.{ints, by_lt_z}
use Rattle.std.proofs.lemmas.Nat.{mul-le}
use native.Mathlib.Nat.{add-mul}
use Rattle.span_fill.specs.Axis.{ahead}
use Rattle.span_fill.specs.FixedWalks.{CanWalk, HasFew, IsFixed, IsOnSurface}
use Rattle.span_fill.specs.Walks.{IsMoved}
use Rattle.span_fill.specs.declared.fixed_walk.FixedWalk.{FixedWalk}
use Rattle.span_fill.specs.declared.walk.Walk.{Walk}

-- a part of the whole is less than one where its product is
below_one : (part full : ℕ) → part * full < 2 ^ 48 * full → part < 2 ^ 48
below_one part full h =
    by_lt_z (pos part) (pos (2 ^ 48))
    (λ k. omega (arith, ints, k))
    (λ k. let most = mul-le (2 ^ 48) full part full (omega (arith, ints, k)) (omega arith) in absurd (omega (arith, h, most)))

-- a fraction that is too great by a few parts has the whole number of the exact one
pub fraction_below : (steps : ℕ) (walk : Walk) (position : FixedWalk) (fixed : IsFixed steps walk position) → CanWalk walk → steps ≤ 8192 → fixed.part < 2 ^ 48
fraction_below steps walk position fixed can few =
    let slack = mul-le steps walk.full 8192 (2 ^ 31) few (omega (arith, can.small)) in
    let high = fixed.part_high in
    let rest = can.rest in
    below_one fixed.part walk.full (omega (arith, slack, high, rest))

-- the walk after a step that leads to this coordinate on the minor axis and to this remainder
abbrev next_walk : Walk → ℤ → ℕ → Walk
next_walk walk v rest = record { u = ahead walk.forwards walk.u 1; v = v; rest = rest; more = walk.more; full = walk.full; back = walk.back; forwards = walk.forwards }

-- the walk after a step, of which a position is the one in fixed point
pub record HasNext (steps : ℕ) (walk : Walk) (position : FixedWalk) : Type 0 where
  pub next : Walk
  pub moved : IsMoved walk next
  pub fixed : IsFixed (suc steps) next position

-- the position in fixed point after a step
pub record Advances (old new : FixedWalk) : Type 0 where
  pub u : new.u ≡ ahead old.forwards old.u 1
  pub at : new.at ≡ old.at +ℤ old.each
  pub each : new.each ≡ old.each
  pub forwards : new.forwards ≡ old.forwards

module _ (steps : ℕ) (walk : Walk) (old new : FixedWalk) (fixed : IsFixed steps walk old) (can : CanWalk walk) (few : steps ≤ 8192) (next : Advances old new) where
  sum_times : (fixed.part + fixed.gain) * walk.full ≡ fixed.part * walk.full + fixed.gain * walk.full
  sum_times = add-mul fixed.part fixed.gain walk.full

  more_times : suc steps * walk.full ≡ steps * walk.full + walk.full
  more_times =
      let e : suc steps ≡ steps + 1 = omega arith in
      ap (λ (n : ℕ). n * walk.full) e ∙ add-mul steps 1 walk.full ∙ omega arith

  next_u : new.u ≡ ahead walk.forwards walk.u 1
  next_u = next.u ∙ ap (λ (b : Bool). ahead b old.u 1) fixed.forwards ∙ ap (λ (u : ℤ). ahead walk.forwards u 1) fixed.u

  next_at : new.at ≡ (walk.v +ℤ walk.back) *ℤ pos (2 ^ 48) +ℤ pos (fixed.part + fixed.gain)
  next_at = let at = next.at in let now = fixed.at in let each = fixed.each in omega (arith, ints, at, now, each)

  kept : walk.rest + walk.more < walk.full → HasNext steps walk new
  kept under =
      let sum = sum_times in
      let times = more_times in
      record {
        next = next_walk walk (walk.v +ℤ walk.back) (walk.rest + walk.more);
        moved = record {
          same = record { more = refl; full = refl; back = refl; forwards = refl };
          u = refl;
          kept = λ h. (refl, refl);
          carried = λ h. absurd (omega (arith, h, under));
        };
        fixed = record {
          part = fixed.part + fixed.gain;
          gain = fixed.gain;
          u = next_u;
          forwards = next.forwards ∙ fixed.forwards;
          at = next_at;
          each = next.each ∙ fixed.each;
          part_low = omega (arith, sum, fixed.part_low, fixed.gain_low);
          part_high = omega (arith, sum, times, fixed.part_high, fixed.gain_high);
          gain_low = fixed.gain_low;
          gain_high = fixed.gain_high;
        };
      }

  whole_reached : walk.full ≤ walk.rest + walk.more → 1 ≤ walk.full → 2 ^ 48 ≤ fixed.part + fixed.gain
  whole_reached over some =
      by_lt_z (pos (fixed.part + fixed.gain)) (pos (2 ^ 48))
      (λ k.
      let most = mul-le (fixed.part + fixed.gain + 1) walk.full (2 ^ 48) walk.full (omega (arith, ints, k)) (omega arith) in
      let one = add-mul (fixed.part + fixed.gain) 1 walk.full in
      let sum = sum_times in
      let low = fixed.part_low in
      let gain = fixed.gain_low in
      absurd (omega (arith, most, one, sum, low, gain, over, some)))
      (λ k. omega (arith, ints, k))

  carried : walk.full ≤ walk.rest + walk.more → HasNext steps walk new
  carried over =
      let rest = can.rest in
      let more = can.more in
      let reached = whole_reached over (omega (arith, rest)) in
      let sum = sum_times in
      let times = more_times in
      let whole : fixed.part + fixed.gain ≡ fixed.part + fixed.gain - 2 ^ 48 + 2 ^ 48 = omega (arith, reached) in
      let less = ap (λ (n : ℕ). n * walk.full) whole ∙ add-mul (fixed.part + fixed.gain - 2 ^ 48) (2 ^ 48) walk.full in
      let at = next_at in
      record {
        next = next_walk walk (walk.v +ℤ walk.back +ℤ pos 1) (walk.rest + walk.more - walk.full);
        moved = record {
          same = record { more = refl; full = refl; back = refl; forwards = refl };
          u = refl;
          kept = λ h. absurd (omega (arith, h, over));
          carried = λ h. (refl, omega (arith, over));
        };
        fixed = record {
          part = fixed.part + fixed.gain - 2 ^ 48;
          gain = fixed.gain;
          u = next_u;
          forwards = next.forwards ∙ fixed.forwards;
          at = omega (arith, ints, at, reached);
          each = next.each ∙ fixed.each;
          part_low = omega (arith, sum, less, over, fixed.part_low, fixed.gain_low);
          part_high = omega (arith, sum, less, over, times, fixed.part_high, fixed.gain_high);
          gain_low = fixed.gain_low;
          gain_high = fixed.gain_high;
        };
      }

  pub advances : HasNext steps walk new
  advances =
      by_lt_z (pos (walk.rest + walk.more)) (pos walk.full)
      (λ under. kept (omega (arith, ints, under)))
      (λ over. carried (omega (arith, ints, over)))

-- one more step fits, if the position after it is on the surface
pub few_after : (steps : ℕ) (walk next : Walk) → IsMoved walk next → HasFew steps walk → HasFew (suc steps) next
few_after steps walk next moved few = record {
  forwards = λ up.
      let before = few.forwards (sym moved.same.forwards ∙ up) in
      let u : next.u ≡ ahead true walk.u 1 = moved.u ∙ ap (λ (b : Bool). ahead b walk.u 1) (sym moved.same.forwards ∙ up) in
      omega (arith, ints, before, u);
  backwards = λ down.
      let before = few.backwards (sym moved.same.forwards ∙ down) in
      let u : next.u ≡ ahead false walk.u 1 = moved.u ∙ ap (λ (b : Bool). ahead b walk.u 1) (sym moved.same.forwards ∙ down) in
      omega (arith, ints, before, u);
}

few_by : (forwards : Bool) (steps : ℕ) (walk : Walk) → walk.forwards ≡ forwards → HasFew steps walk → IsOnSurface walk → steps ≤ 8192
few_by true steps walk up few on = let h = few.forwards up in omega (arith, ints, h, on.u_high)
few_by false steps walk down few on = let h = few.backwards down in omega (arith, ints, h, on.u_low)

-- on a surface there are few steps
pub few_steps : (steps : ℕ) (walk : Walk) → HasFew steps walk → IsOnSurface walk → steps ≤ 8192
few_steps steps walk few on = few_by walk.forwards steps walk refl few on

-- at the first position one is few
pub few_at_first : (walk : Walk) → IsOnSurface walk → HasFew 1 walk
few_at_first walk on = record { forwards = λ up. omega (arith, ints, on.u_low); backwards = λ down. omega (arith, ints, on.u_high) }

-- the whole part of a position in fixed point is the coordinate of the walk
pub whole_is : (v : ℤ) (part n : ℕ) (at : ℤ) → at ≡ v *ℤ pos (2 ^ 48) +ℤ pos part → part < 2 ^ 48 → (pos n *ℤ pos (2 ^ 48)) ≤ℤ at → at <ℤ ((pos n +ℤ pos 1) *ℤ pos (2 ^ 48)) → v ≡ pos n
whole_is v part n at is below low high = omega (arith, ints, is, below, low, high)

-- what a step adds is little more than a whole
pub gain_small : (steps : ℕ) (walk : Walk) (position : FixedWalk) (fixed : IsFixed steps walk position) → CanWalk walk → fixed.gain ≤ 2 ^ 49
gain_small steps walk position fixed can =
    by_lt_z (pos (2 ^ 49)) (pos fixed.gain)
    (λ k.
    let least = mul-le (2 ^ 49) walk.full fixed.gain walk.full (omega (arith, ints, k)) (omega arith) in
    let high = fixed.gain_high in
    let rest = can.rest in
    let more = can.more in
    absurd (omega (arith, least, high, rest, more)))
    (λ k. omega (arith, ints, k))
