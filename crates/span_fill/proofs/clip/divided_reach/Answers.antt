-- The count behind the quotient.
use Rattle.std.proofs.Common.{rules, FitsSigned, arith, pos, ◌-ℤ◌}
use Rattle.std.specs.Int.{w64}
use Rattle.std.proofs.lemmas.Int.{ints, to_z-of_z, fits_signed_from_abs}
use Rattle.span_fill.proofs.ClipLemmas.{reach_divided}
use Rattle.span_fill.proofs.clip.divided_reach.Goals as goal

pub returns-clause-exact : goal.returns-clause-exact
returns-clause-exact c = λ k.
    let amount_fits = c.ranges.amount in
    let low = c.requires.low in
    let high = c.requires.high in
    let less_fits : FitsSigned w64 (c.args.amount -ℤ pos 1) = fits_signed_from_abs w64 (c.args.amount -ℤ pos 1) (omega (arith, ints, low, high)) in
    let each_fits : FitsSigned w64 c.from.result = search rules in
    let quotient_fits : FitsSigned w64 c.divide.result.quotient = search rules in
    let divided = simp to_z-of_z at c.divide.ensures.whole in
    let whole = rw c.from.ensures at divided in
    let left = simp to_z-of_z at c.divide.ensures.below in
    let below = rw c.from.ensures at left in
    let is = simp to_z-of_z at c.count_from.ensures in
    reach_divided c.args.amount c.args.each c.divide.result.quotient c.divide.result.rest c.count_from.result k whole c.divide.ensures.rest below is
