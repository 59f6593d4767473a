-- A line beside the region adds nothing. What is marked of another covers it, and the last row has no row of lines.
use Rattle.std.proofs.Common.{pos, ◌+◌}
use Rattle.span_fill.specs.WideStrokes.{on_wide_line}
use Rattle.span_fill.proofs.MaskCoverLemmas.{known_still, line_covered, line_keeps_last, line_spared, nothing_within}
use Rattle.span_fill.proofs.mask_cover.cover_new_line.Goals as goal

pub returns-then-is_around_within-clause-line : goal.returns-then-is_around_within-clause-line
returns-then-is_around_within-clause-line c =
    line_spared c.args.frame c.args.line c.args.bits.now (record { from = 0; to = 0 }) (λ x y wide high inside. absurd (nothing_within x inside)) (c.is_around_within.ensures c.if-is_around_within.true)

pub returns-clause-line : goal.returns-clause-line
returns-clause-line c = line_covered c.args.frame c.args.line c.args.bits.now c.mark_line.new.bits c.requires.frame c.mark_line.ensures.line

pub returns-clause-known : goal.returns-clause-known
returns-clause-known c =
    known_still c.args.frame (λ x y. on_wide_line c.args.frame.nib c.args.line (pos (x + c.args.frame.region.columns.from)) (pos (y + c.args.frame.region.rows.from))) c.args.bits.now c.mark_line.new.bits
    (line_covered c.args.frame c.args.line c.args.bits.now c.mark_line.new.bits c.requires.frame c.mark_line.ensures.line)
    (line_keeps_last c.args.frame c.args.line c.args.bits.now c.mark_line.new.bits c.requires.frame c.requires.some c.mark_line.ensures.line)
    c.requires.known
