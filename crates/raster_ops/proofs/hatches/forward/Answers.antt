use Rattle.raster_ops.proofs.HatchLemmas.{forward_cells}
use Rattle.raster_ops.proofs.hatches.forward.Goals as goal

pub returns : goal.returns
returns c = λ m h. forward_cells c.args.row m c.requires h
