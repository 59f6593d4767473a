-- What is known to be covered isn't marked again.
use Rattle.span_fill.specs.MaskCovers.{covers_in}
use Rattle.span_fill.specs.MaskFrames.{marks_in}
use Rattle.span_fill.proofs.MaskCoverLemmas.{covered_too, known_still, rows_keep_last, rows_spared}
use Rattle.span_fill.proofs.mask_cover.cover_rows.Goals as goal

pub returns-then-are_rows_covered-clause-rows : goal.returns-then-are_rows_covered-clause-rows
returns-then-are_rows_covered-clause-rows c =
    rows_spared c.args.frame c.args.line c.args.from c.args.count c.args.bits.now c.requires.known (c.are_rows_covered.ensures c.if-are_rows_covered.true)

pub returns-clause-rows : goal.returns-clause-rows
returns-clause-rows c = covered_too c.args.frame (marks_in c.args.frame c.args.line c.args.from c.args.count) c.args.bits.now c.mark_rows.new.bits c.mark_rows.ensures.rows

pub returns-clause-known : goal.returns-clause-known
returns-clause-known c =
    known_still c.args.frame (covers_in c.args.frame c.args.line c.args.from c.args.count) c.args.bits.now c.mark_rows.new.bits
    (covered_too c.args.frame (marks_in c.args.frame c.args.line c.args.from c.args.count) c.args.bits.now c.mark_rows.new.bits c.mark_rows.ensures.rows)
    (rows_keep_last c.args.frame c.args.line c.args.from c.args.count c.args.bits.now c.mark_rows.new.bits c.requires.frame c.requires.some c.requires.rows c.mark_rows.ensures.rows)
    c.requires.known
