-- The quotient is the floor, so its multiple is at most the dividend and the next one above it; nothing on the way overflows.
use Rattle.std.proofs.Common.{◌≡◌, ℤ, pos, negsuc, ◌^◌, ◌+ℤ◌, ◌-ℤ◌, ◌*ℤ◌, ◌≤ℤ◌, ◌<ℤ◌, FitsSigned, to_z, of_z, arith, sym, subst, rules}
use Rattle.std.specs.Int.{w64, int_div_euclid}
use Rattle.std.proofs.lemmas.Int.{ints, to_z-of_z, fits_signed_from_abs}
use Rattle.span_fill.proofs.FloorLemmas.{floor_low, floor_high}
use Rattle.span_fill.proofs.division.divide.Goals as goal

-- the multiple of the floor, and what it leaves
record IsLeft (a e q : ℤ) : Type 0 where
  product : FitsSigned w64 (e *ℤ q)
  left : FitsSigned w64 (a -ℤ e *ℤ q)
  low : pos 0 ≤ℤ (a -ℤ e *ℤ q)
  high : (a -ℤ e *ℤ q) <ℤ e

left_over : (a e q : ℤ) → pos 1 ≤ℤ e → e ≤ℤ pos (2 ^ 61) → negsuc (2 ^ 62) ≤ℤ a → a ≤ℤ pos (2 ^ 62) → q ≡ int_div_euclid a e → IsLeft a e q
left_over a e q some small low high is =
    let under = subst (λ (n : ℤ). (e *ℤ n) ≤ℤ a) (sym is) (floor_low a e some) in
    let over = subst (λ (n : ℤ). a <ℤ (e *ℤ n +ℤ e)) (sym is) (floor_high a e some) in
    record {
      product = fits_signed_from_abs w64 (e *ℤ q) (omega (arith, ints, under, over, some, small, low, high));
      left = fits_signed_from_abs w64 (a -ℤ e *ℤ q) (omega (arith, ints, under, over, some, small));
      low = omega (arith, ints, under);
      high = omega (arith, ints, over);
    }

left_here : (c : goal.After-div_euclid-quotient) → IsLeft c.args.dividend c.args.divisor c.div_euclid-quotient.result
left_here c =
    let a = c.ranges.dividend in
    let e = c.ranges.divisor in
    let is = simp to_z-of_z at c.div_euclid-quotient.ensures in
    left_over c.args.dividend c.args.divisor c.div_euclid-quotient.result c.requires.above_zero c.requires.divisor_fits c.requires.low c.requires.high is

-- what the code computes is what is left
left_is : (c : goal.After-div_euclid-quotient) → to_z w64 (of_z w64 (to_z w64 (of_z w64 c.args.dividend) -ℤ to_z w64 (of_z w64 (to_z w64 (of_z w64 c.args.divisor) *ℤ to_z w64 (of_z w64 c.div_euclid-quotient.result))))) ≡ c.args.dividend -ℤ c.args.divisor *ℤ c.div_euclid-quotient.result
left_is c =
    let a = c.ranges.dividend in
    let e = c.ranges.divisor in
    let q : FitsSigned w64 c.div_euclid-quotient.result = search rules in
    let product = (left_here c).product in
    let left = (left_here c).left in
    simp to_z-of_z

pub returns-clause-whole : goal.returns-clause-whole
returns-clause-whole c =
    let q : FitsSigned w64 c.div_euclid-quotient.result = search rules in
    let there = left_is c in
    let same : to_z w64 (of_z w64 c.div_euclid-quotient.result) ≡ c.div_euclid-quotient.result = simp to_z-of_z in
    rw (there, same) (omega (arith, ints))

pub returns-clause-rest : goal.returns-clause-rest
returns-clause-rest c = subst (λ (n : ℤ). pos 0 ≤ℤ n) (sym (left_is c)) (left_here c).low

pub returns-clause-below : goal.returns-clause-below
returns-clause-below c = subst (λ (n : ℤ). n <ℤ c.args.divisor) (sym (left_is c)) (left_here c).high
