-- The quotient and the rest of the division are those of the line.
use Rattle.std.proofs.Common.{rules, FitsSigned}
use Rattle.std.specs.Int.{w64}
use Rattle.std.proofs.lemmas.Int.{to_z-of_z}
use Rattle.span_fill.proofs.MajorLineLemmas.{offset_from}
use Rattle.span_fill.proofs.major_line.divided_offset.Goals as goal

pub returns-clause-offset : goal.returns-clause-offset
returns-clause-offset c =
    let short_fits = c.ranges.short in
    let dividend_fits : FitsSigned w64 c.dividend.result = search rules in
    let divisor_fits : FitsSigned w64 c.from.result = search rules in
    let is = simp to_z-of_z at c.dividend.ensures.value in
    let quotient = simp to_z-of_z at c.divide.ensures.whole in
    let whole = rw c.from.ensures at quotient in
    let left = simp to_z-of_z at c.divide.ensures.below in
    let below = rw c.from.ensures at left in
    offset_from c.args.long c.args.short c.args.step c.dividend.result c.divide.result.quotient c.divide.result.rest c.requires.some c.requires.low c.requires.high is whole c.divide.ensures.rest below
