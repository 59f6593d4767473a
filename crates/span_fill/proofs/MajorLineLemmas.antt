-- How far a line has come along its shorter axis: no further than along the longer one.
use Rattle.std.proofs.Common.{◌≡◌, ℕ, Bool, true, false, sym, ◌*◌, ◌≤◌, ℤ, pos, neg_ℤ, ◌+ℤ◌, ◌*ℤ◌, ◌≤ℤ◌, ◌<ℤ◌, arith}
use Rattle.std.proofs.lemmas.Int.{ints}
use Rattle.mapping.specs.Limits.{place_limit}
use Rattle.std.proofs.lemmas.Bool.{ltb-true, ltb-false}
use Rattle.span_fill.specs.Axis.{IsOffset, IsPlace}
use Rattle.span_fill.specs.MajorLines.{IsMajorLine, major_of}
use Rattle.span_fill.specs.Lines.{HasNearEnds, IsNear}
use Rattle.span_fill.specs.Strokes.{far, is_y_major}
use Rattle.span_fill.specs.declared.line.Line.{Line}
use Rattle.mapping.proofs.Products.{mul_comm_ℤ, mul_neg, mul_order, mul_order_back, twice_mul}

not_above : (long : ℕ) (short : ℤ) (step : ℕ) (across rest : ℤ) → 1 ≤ long → short ≤ℤ pos long → pos 0 ≤ℤ rest → pos 2 *ℤ (pos step *ℤ short) +ℤ pos long ≡ pos 2 *ℤ (pos long *ℤ across) +ℤ rest → across ≤ℤ pos step
not_above long short step across rest some high not_negative divided =
    let grows = mul_order (pos step) short (pos long) (omega (arith, ints)) high in
    let flipped = mul_comm_ℤ (pos step) (pos long) in
    mul_order_back (pos long) across (pos step) (omega (arith, ints, some)) (omega (arith, ints, grows, flipped, divided, not_negative, some))

not_below : (long : ℕ) (short : ℤ) (step : ℕ) (across rest : ℤ) → 1 ≤ long → neg_ℤ (pos long) ≤ℤ short → rest <ℤ pos (2 * long) → pos 2 *ℤ (pos step *ℤ short) +ℤ pos long ≡ pos 2 *ℤ (pos long *ℤ across) +ℤ rest → neg_ℤ (pos step) ≤ℤ across
not_below long short step across rest some low below divided =
    let falls = mul_order (pos step) (neg_ℤ (pos long)) short (omega (arith, ints)) low in
    let sign = mul_neg (pos step) (pos long) in
    let other = mul_neg (pos long) (pos step) in
    let flipped = mul_comm_ℤ (pos step) (pos long) in
    mul_order_back (pos long) (neg_ℤ (pos step)) across (omega (arith, ints, some)) (omega (arith, ints, falls, sign, other, flipped, divided, below, some))

pub offset_from : (long : ℕ) (short : ℤ) (step : ℕ) (dividend across rest : ℤ) → 1 ≤ long → neg_ℤ (pos long) ≤ℤ short → short ≤ℤ pos long → dividend ≡ pos 2 *ℤ (pos step *ℤ short) +ℤ pos long → dividend ≡ pos (2 * long) *ℤ across +ℤ rest → pos 0 ≤ℤ rest → rest <ℤ pos (2 * long) → IsOffset long short step across rest
offset_from long short step dividend across rest some low high is whole not_negative below =
    let double = twice_mul (pos long) across in
    let divided : pos 2 *ℤ (pos step *ℤ short) +ℤ pos long ≡ pos 2 *ℤ (pos long *ℤ across) +ℤ rest = omega (arith, ints, is, whole, double) in
    record {
      divided = divided;
      least = not_below long short step across rest some low below divided;
      most = not_above long short step across rest some high not_negative divided;
    }

-- a near coordinate, in plain numbers
pub near_place : (v : ℤ) → IsNear v → IsPlace v
unfolding place_limit
near_place v h = let low = h.low in let high = h.high in record { low = omega (arith, ints, low); high = omega (arith, ints, high) }

-- a line with near ends, by its longer axis
pub major_near : (line : Line) (y_major : Bool) → HasNearEnds line → y_major ≡ is_y_major line → IsMajorLine (major_of y_major line)
major_near line true near axis = record {
  from_u = near_place line.from.y near.from.y;
  from_v = near_place line.from.x near.from.x;
  to_u = near_place line.to.y near.to.y;
  to_v = near_place line.to.x near.to.x;
  longer = let longer = ltb-true (far line.from.x line.to.x) (far line.from.y line.to.y) (sym axis) in omega (arith, longer);
}
major_near line false near axis = record {
  from_u = near_place line.from.x near.from.x;
  from_v = near_place line.from.y near.from.y;
  to_u = near_place line.to.x near.to.x;
  to_v = near_place line.to.y near.to.y;
  longer = ltb-false (far line.from.x line.to.x) (far line.from.y line.to.y) (sym axis);
}
