use Rattle.std.proofs.Common.{sym, ◌∙◌}
use Rattle.painting.proofs.VisibleLemmas.{no_cuts}
use Rattle.painting.proofs.visiting.begin_visited_mask.Goals as goal

pub returns-clause-uncut : goal.returns-clause-uncut
returns-clause-uncut c = λ begun. no_cuts c.args.clip.now c.cut_boxes.result.now c.cut_boxes.ensures (sym c.is_empty.ensures ∙ c.if-not-is_empty.false)
