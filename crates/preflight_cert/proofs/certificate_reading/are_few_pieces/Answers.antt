-- The limit of the code is that of a path.
use Rattle.std.proofs.Common.{refl}
use Rattle.dc_stack.specs.Path.{piece_limit}
use Rattle.preflight_cert.proofs.certificate_reading.are_few_pieces.Goals as goal

pub returns : goal.returns
unfolding piece_limit
returns c = refl
