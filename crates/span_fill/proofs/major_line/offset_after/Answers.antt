-- The offset is that of the division, in narrower numbers.
use Rattle.std.proofs.lemmas.Int.{to_z-of_z}
use Rattle.span_fill.proofs.major_line.offset_after.Goals as goal

pub returns-clause-offset : goal.returns-clause-offset
returns-clause-offset c =
    let short_fits = c.ranges.short in
    let there = simp to_z-of_z at c.divided_offset.ensures.offset in
    rw (c.narrowed.ensures.across, c.narrowed.ensures.rest) there
