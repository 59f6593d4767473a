-- The limit of the code is that of a drawing.
use Rattle.std.proofs.Common.{refl}
use Rattle.dc_stack.specs.Drawing.{edge_limit}
use Rattle.preflight_cert.proofs.certificate_reading.are_few_edges.Goals as goal

pub returns : goal.returns
unfolding edge_limit
returns c = refl
