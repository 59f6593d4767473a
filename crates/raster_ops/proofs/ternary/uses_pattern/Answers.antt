use Rattle.std.proofs.Common.{arith}
use Rattle.raster_ops.proofs.TernaryLemmas.{four_apart}
use Rattle.raster_ops.proofs.ternary.uses_pattern.Goals as goal

pub returns : goal.returns
returns c = four_apart c.args.op.table (omega arith)
