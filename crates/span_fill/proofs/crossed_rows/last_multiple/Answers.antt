-- The floor is what is asked for.
use Rattle.std.proofs.Common.{FitsSigned, w64, rules}
use Rattle.std.proofs.lemmas.Int.{to_z-of_z}
use Rattle.span_fill.proofs.CrossedLemmas.{last_is_floor}
use Rattle.span_fill.proofs.crossed_rows.last_multiple.Goals as goal

pub returns-clause-last : goal.returns-clause-last
returns-clause-last c =
    let dividend : FitsSigned w64 c.args.dividend = c.ranges.dividend in
    let divisor : FitsSigned w64 c.args.divisor = c.ranges.divisor in
    let floor : FitsSigned w64 c.div_euclid.result = search rules in
    let is = simp to_z-of_z at c.div_euclid.ensures in
    simp to_z-of_z (last_is_floor c.args.dividend c.args.divisor c.div_euclid.result c.requires.low is)
