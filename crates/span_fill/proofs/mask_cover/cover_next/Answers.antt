-- A line above or below adds nothing.
use Rattle.span_fill.proofs.MaskCoverLemmas.{above_spared, below_spared}
use Rattle.span_fill.proofs.mask_cover.cover_next.Goals.{then-is_above-via-then-is_above, then-is_above-via-else-is_above+then-is_below}
use Rattle.span_fill.proofs.mask_cover.cover_next.Goals as goal

pub returns-then-is_above-clause-line : goal.returns-then-is_above-clause-line
returns-then-is_above-clause-line c =
    elim c.then-is_above.branch [
      | then-is_above-via-then-is_above w ↦ above_spared c.args.frame c.args.line c.args.bits.now (c.is_above.ensures w.if-is_above.true)
      | then-is_above-via-else-is_above+then-is_below w ↦ below_spared c.args.frame c.args.line c.args.bits.now c.requires.frame (w.is_below.ensures w.if-is_below.true)
    ]
