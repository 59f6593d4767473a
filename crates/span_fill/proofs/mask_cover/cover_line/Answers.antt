-- Nothing at all, all rows at once, or in three parts.
use Rattle.std.proofs.Common.{◌-◌, ap}
use Rattle.span_fill.proofs.MaskCoverLemmas.{all_covered, line_spared, parts_covered}
use Rattle.span_fill.proofs.mask_cover.cover_line.Goals as goal

pub returns-then-is_around_within-clause-line : goal.returns-then-is_around_within-clause-line
returns-then-is_around_within-clause-line c = line_spared c.args.frame c.args.line c.args.bits.now c.args.known c.requires.columns (c.is_around_within.ensures c.if-is_around_within.true)

pub returns-then-spare-eq0-clause-line : goal.returns-then-spare-eq0-clause-line
returns-then-spare-eq0-clause-line c = all_covered c.args.frame c.args.line c.row_count.result c.args.bits.now c.cover_rows.new.bits c.requires.frame c.row_count.ensures c.cover_rows.ensures.rows

pub returns-clause-line : goal.returns-clause-line
returns-clause-line c =
    parts_covered c.args.frame c.args.line (c.height-before.result - 1) c.spare-spare.result c.args.bits.now c.cover_rows-first.new.bits c.cover_shared.new.bits c.cover_rows-last.new.bits c.requires.frame
    (ap (λ n. n - 1) c.height-before.ensures.height) c.spare-spare.ensures c.requires.some c.if-spare-eq0.false c.cover_rows-first.ensures.rows c.cover_shared.ensures.rows c.cover_rows-last.ensures.rows
