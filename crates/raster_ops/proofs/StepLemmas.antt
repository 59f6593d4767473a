-- Places on a side, scaled by division, and from one to the next by additions.
use Rattle.std.proofs.Common.{◌≡◌, ℕ, ◌+◌, ◌*◌, ◌/◌, ◌<◌, ◌≤◌, Bool, true, false, cond, leb, ap, sym, subst, ◌∙◌, arith}
use Rattle.std.proofs.lemmas.Bool.Decides.{nat_tests}
use Rattle.std.proofs.Math.Nat.{add-mul, mul-le-mul_right, div-lt_iff_lt-mul, mul_comm}
use Rattle.std.proofs.lemmas.Nat.{div-mul-add}
use Rattle.raster_ops.specs.Sources.{scaled_place}

-- the middle of a place below a side is before the side's end
module _ (count side place : ℕ) (some : 1 ≤ count) (within : place < side) where
  middle_below : (2 * place + 1) * count < count * (2 * side)
  middle_below =
      let more : (2 * place + 1 + 1) * count ≤ (2 * side) * count = mul-le-mul_right count (omega arith) in
      let split : (2 * place + 1 + 1) * count ≡ (2 * place + 1) * count + 1 * count = add-mul (2 * place + 1) 1 count in
      let mirrored : (2 * side) * count ≡ count * (2 * side) = mul_comm (2 * side) count in
      omega (arith, more, split, mirrored)

  pub scaled_below : scaled_place count side place < count
  scaled_below = (div-lt_iff_lt-mul {k = 2 * side} {x = (2 * place + 1) * count} {y = count} (omega arith)).1 middle_below

-- a quotient and a rest are those of the division
module _ (count side place quotient rest : ℕ) (divided : (2 * place + 1) * count ≡ quotient * (2 * side) + rest) (below : rest < 2 * side) where
  pub quotient_is : quotient ≡ scaled_place count side place
  quotient_is = sym (ap (λ (n : ℕ). n / (2 * side)) divided ∙ div-mul-add quotient (2 * side) rest below)

  pub quotient_below : 1 ≤ count → place < side → quotient < count
  quotient_below some within = subst (λ (q : ℕ). q < count) (sym quotient_is) (scaled_below count side place some within)

-- one place on
module _ (count twice place quotient rest whole part : ℕ) (divided : (2 * place + 1) * count ≡ quotient * twice + rest) (moves : 2 * count ≡ whole * twice + part) where
  pub next_middle : (2 * (place + 1) + 1) * count ≡ (quotient + whole) * twice + (rest + part)
  next_middle =
      let split : (2 * place + 1 + 2) * count ≡ (2 * place + 1) * count + 2 * count = add-mul (2 * place + 1) 2 count in
      let same : (2 * (place + 1) + 1) * count ≡ (2 * place + 1 + 2) * count = ap (λ (n : ℕ). n * count) (omega arith) in
      let sum : (quotient + whole) * twice ≡ quotient * twice + whole * twice = add-mul quotient whole twice in
      omega (arith, split, same, sum, divided, moves)

  pub next_divided : (over : Bool) (left : ℕ) → left + cond over twice 0 ≡ rest + part → (2 * (place + 1) + 1) * count ≡ (quotient + whole + cond over 1 0) * twice + left
  next_divided true left e =
      let sum : (quotient + whole + 1) * twice ≡ (quotient + whole) * twice + 1 * twice = add-mul (quotient + whole) 1 twice in
      omega (arith, next_middle, sum, e)
  next_divided false left e =
      let sum : (quotient + whole + 0) * twice ≡ (quotient + whole) * twice = ap (λ (n : ℕ). n * twice) (omega arith) in
      omega (arith, next_middle, sum, e)

-- what is left of a sum below twice the divisor is below the divisor
pub left_below : (twice sum left : ℕ) (over : Bool) → over ≡ leb twice sum → sum < twice + twice → left + cond over twice 0 ≡ sum → left < twice
left_below twice sum left over e h k = grind (arith, nat_tests)
