-- The remainders are fractions, rounded up by less than a part.
use Rattle.std.proofs.Common.{◌≡◌, ◌^◌, ℤ, pos, ◌+ℤ◌, ◌*ℤ◌, ◌∙◌, FitsSigned, to_z, of_z, ap, arith, refl, rules}
use Rattle.std.specs.Int.{w32, w64}
use Rattle.std.proofs.lemmas.Int.{to_z-of_z}
use Rattle.span_fill.proofs.fixed_walk.FixedWalk.of.Goals as goal

-- a number in its 32 bits, and in its 64
in_word : (z : ℤ) → FitsSigned w32 z → to_z w32 (of_z w32 z) ≡ z
in_word z fits = simp to_z-of_z

in_words : (z : ℤ) → FitsSigned w64 z → to_z w64 (of_z w64 z) ≡ z
in_words z fits = simp to_z-of_z

pub returns : goal.returns
returns c =
    let u_fits : FitsSigned w32 c.args.walk.u = search rules in
    let v_fits : FitsSigned w32 c.args.walk.v = search rules in
    let back_fits : FitsSigned w32 c.args.walk.back = search rules in
    let at_fits : FitsSigned w64 c.fixed.result = search rules in
    let each_fits : FitsSigned w64 c.fixed-2.result = search rules in
    let high = c.fraction.ensures.high in
    record {
      part = c.fraction.result;
      gain = c.fraction-2.result;
      u = in_word c.args.walk.u u_fits;
      forwards = refl;
      at = in_words c.fixed.result at_fits ∙ c.fixed.ensures ∙ ap (λ (n : ℤ). n *ℤ pos (2 ^ 48) +ℤ pos c.fraction.result) (in_word c.args.walk.v v_fits);
      each = in_words c.fixed-2.result each_fits ∙ c.fixed-2.ensures ∙ ap (λ (n : ℤ). n *ℤ pos (2 ^ 48) +ℤ pos c.fraction-2.result) (in_word c.args.walk.back back_fits);
      part_low = c.fraction.ensures.low;
      part_high = omega (arith, high);
      gain_low = c.fraction-2.ensures.low;
      gain_high = c.fraction-2.ensures.high;
    }
