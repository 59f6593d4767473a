use Rattle.raster_ops.proofs.HatchLemmas.{backward_cells}
use Rattle.raster_ops.proofs.hatches.backward.Goals as goal

pub returns : goal.returns
returns c = λ m h. backward_cells c.args.row m c.requires h
