use Rattle.std.proofs.Common.{arith}
use Rattle.raster_ops.proofs.TernaryLemmas.{two_apart}
use Rattle.raster_ops.proofs.ternary.uses_source.Goals as goal

pub returns : goal.returns
returns c = two_apart c.args.op.table (omega arith)
