use Rattle.preflight_cert.proofs.SizeLemmas.{size_laws}
use Rattle.preflight_cert.proofs.laws.size_law.Goals as goal

pub returns : goal.returns
returns c = size_laws c.fault_law.ensures c.drawing_box_law.ensures
