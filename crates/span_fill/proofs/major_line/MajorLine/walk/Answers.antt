-- The walk's numbers are those of the course.
use Rattle.std.proofs.Common.{◌≡◌, ℤ, pos, negsuc, ◌+ℤ◌, ◌-ℤ◌, ◌*ℤ◌, ◌≤ℤ◌, FitsSigned, to_z, of_z, arith, ap, sym, subst, ◌∙◌, rules}
use Rattle.std.specs.Int.{w32}
use Rattle.std.proofs.lemmas.Int.{ints, to_z-of_z}
use Rattle.span_fill.specs.Axis.{ahead}
use Rattle.span_fill.specs.MajorLines.{length_of, rise_of}
use Rattle.span_fill.proofs.major_line.MajorLine.walk.Goals as goal

-- a number in its 32 bits
in_bits : (z : ℤ) → FitsSigned w32 z → to_z w32 (of_z w32 z) ≡ z
in_bits z fits = simp to_z-of_z

pub returns : goal.returns
returns c =
    let u_fits : FitsSigned w32 c.reached.result = search rules in
    let v_fits : FitsSigned w32 c.placed.result = search rules in
    let back_fits : FitsSigned w32 c.slope_of-slope.result.back = search rules in
    let rise_fits : FitsSigned w32 c.rise.result = search rules in
    let offset = c.offset-offset.ensures.offset in
    let back = in_bits c.slope_of-slope.result.back back_fits in
    let moves = simp to_z-of_z at c.slope_of-slope.ensures.moves in
    let v : to_z w32 (of_z w32 c.placed.result) ≡ c.args.self.from_v +ℤ c.offset-offset.result.across = in_bits c.placed.result v_fits ∙ c.placed.ensures in
    let across : to_z w32 (of_z w32 c.placed.result) -ℤ c.args.self.from_v ≡ c.offset-offset.result.across = omega (arith, ints, v) in
    record {
      forwards = c.is_forwards.ensures;
      u = in_bits c.reached.result u_fits ∙ c.reached.ensures ∙ ap (λ b. ahead b c.args.self.from_u c.args.step) (sym c.is_forwards.ensures);
      full = omega (arith, c.length-2.ensures.value);
      moves = moves ∙ ap (λ r. pos 2 *ℤ r -ℤ pos 2 *ℤ (pos c.length.result *ℤ c.slope_of-slope.result.back)) c.rise.ensures.value ∙ ap (λ n. pos 2 *ℤ rise_of c.args.self -ℤ pos 2 *ℤ (pos n *ℤ c.slope_of-slope.result.back)) c.length.ensures.value ∙ ap (λ b. pos 2 *ℤ rise_of c.args.self -ℤ pos 2 *ℤ (pos (length_of c.args.self) *ℤ b)) (sym back);
      more_within = omega (arith, c.slope_of-slope.ensures.within, c.length.ensures.value, c.length-2.ensures.value);
      back_low = subst (λ (n : ℤ). negsuc 0 ≤ℤ n) (sym back) c.slope_of-slope.ensures.low;
      back_high = subst (λ (n : ℤ). n ≤ℤ pos 0) (sym back) c.slope_of-slope.ensures.high;
      divided = offset.divided ∙ ap (λ p. pos 2 *ℤ (pos (length_of c.args.self) *ℤ p) +ℤ pos c.offset-offset.result.rest) (sym across);
      rest_below = omega (arith, c.length-2.ensures.value, c.offset-offset.ensures.below);
      v_low = omega (arith, ints, v, offset.least);
      v_high = omega (arith, ints, v, offset.most);
    }
