-- The rows that share one are rows of lines, and the last row of the mask has none.
use Rattle.std.proofs.Common.{◌+◌, ◌-◌, arith}
use Rattle.span_fill.specs.MaskCovers.{covers_in}
use Rattle.span_fill.specs.MaskFrames.{marks_in, spare_of}
use Rattle.span_fill.specs.StrokeMasks.{height_of}
use Rattle.span_fill.proofs.MaskCoverLemmas.{covered_too, known_still, rows_keep_last}
use Rattle.span_fill.proofs.mask_cover.cover_shared.Goals as goal

pub returns-clause-rows : goal.returns-clause-rows
returns-clause-rows c =
    covered_too c.args.frame (marks_in c.args.frame c.args.line (height_of c.args.frame.region - 1) (spare_of c.args.frame + 1)) c.args.bits.now c.mark_shared.new.bits c.mark_shared.ensures.rows

pub returns-clause-known : goal.returns-clause-known
returns-clause-known c =
    let some = c.requires.some in
    let side = c.requires.frame.nib.y.not_empty in
    known_still c.args.frame (covers_in c.args.frame c.args.line (height_of c.args.frame.region - 1) (spare_of c.args.frame + 1)) c.args.bits.now c.mark_shared.new.bits
    (covered_too c.args.frame (marks_in c.args.frame c.args.line (height_of c.args.frame.region - 1) (spare_of c.args.frame + 1)) c.args.bits.now c.mark_shared.new.bits c.mark_shared.ensures.rows)
    (rows_keep_last c.args.frame c.args.line (height_of c.args.frame.region - 1) (spare_of c.args.frame + 1) c.args.bits.now c.mark_shared.new.bits c.requires.frame c.requires.some (omega (arith, some, side)) c.mark_shared.ensures.rows)
    c.requires.known
