use Rattle.std.proofs.Common.{rules}
use Rattle.dc_stack.specs.Drawing.{edge_limit}
use Rattle.painting.proofs.scratch.rows_for.Goals as goal

pub returns : goal.returns
unfolding edge_limit
returns g = search rules
