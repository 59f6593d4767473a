-- The numbers are the course's.
use Rattle.std.proofs.Common.{rules, FitsSigned, sym}
use Rattle.std.specs.Int.{w32}
use Rattle.std.proofs.lemmas.Int.{to_z-of_z}
use Rattle.span_fill.proofs.major_line.MajorLine.offset.Goals as goal

pub returns-clause-offset : goal.returns-clause-offset
returns-clause-offset c =
    let short_fits : FitsSigned w32 c.rise.result = search rules in
    let there = simp to_z-of_z at c.offset_after.ensures.offset in
    rw (sym c.length.ensures.value, sym c.rise.ensures.value) there
