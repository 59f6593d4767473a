-- The numbers are what they are as they are passed.
use Rattle.std.proofs.Common.{◌+◌, FitsSigned, w64, ◌^◌, lit≤, rules, refl}
use Rattle.std.proofs.lemmas.Int.{to_z-of_z}
use Rattle.span_fill.proofs.EdgeLemmas.{within_wider}
use Rattle.span_fill.proofs.edge.Edge.crossing_at.Goals as goal

pub divided-crossing-requires-clause-dividend : goal.divided-crossing-requires-clause-dividend
divided-crossing-requires-clause-dividend c =
    let fits : FitsSigned w64 c.dividend.result = search rules in
    simp to_z-of_z (within_wider (2 ^ 62) (2 ^ 62 + 2 ^ 31) _ (lit≤ tt) c.dividend.ensures.near)

pub returns : goal.returns
returns c =
    let down : FitsSigned w64 c.down.result = search rules in
    let divisor : FitsSigned w64 c.doubled.result = search rules in
    let dividend : FitsSigned w64 c.dividend.result = search rules in
    let quotient : FitsSigned w64 c.divided-crossing.result.floor = search rules in
    let rest : FitsSigned w64 c.divided-crossing.result.rest = search rules in
    let divisor_is = simp to_z-of_z at c.doubled.ensures.value in
    let quotient_is = simp to_z-of_z at c.divided-crossing.ensures.floor in
    let rest_is = simp to_z-of_z at c.divided-crossing.ensures.rest in
    simp to_z-of_z (rw (quotient_is, rest_is, divisor_is, c.down.ensures.value, c.dividend.ensures.value) refl)
