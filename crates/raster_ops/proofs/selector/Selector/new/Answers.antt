use Rattle.raster_ops.proofs.SelectorLemmas.{choice}
use Rattle.raster_ops.proofs.selector.Selector.new.Goals as goal

pub returns : goal.returns
returns c = record { each = λ p s k h. choice c.args.table _ _ _ _ c.mask-none.ensures c.mask-source.ensures c.mask-pattern.ensures c.mask-both.ensures p s k h }
