-- What is mixed of a region with everything visible is what is stroked.
use Rattle.painting.proofs.MaskStrokeLemmas.{stroked}
use Rattle.painting.proofs.RowLemmas.{few_written}
use Rattle.painting.proofs.mask_stroking.stroke_by_mask.Goals as goal

pub returns-clause-pixels : goal.returns-clause-pixels
returns-clause-pixels g c =
    stroked c.writing_law.ensures c.args.stroke.now (g.O.Outline.lines c.args.outline) c.args.canvas.now c.whole_law.ensures.whole c.args.drawn c.mix_parts.new.canvas c.requires.visible c.mix_parts.ensures

pub returns-clause-few : goal.returns-clause-few
returns-clause-few g c = few_written c.writing_law.ensures _ _ c.args.canvas.now c.mix_parts.new.canvas c.mix_parts.ensures c.whole_law.ensures.pixels
