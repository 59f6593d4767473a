use Rattle.canvas.proofs.PpmBothWays.{ppm_laws}
use Rattle.canvas.proofs.laws.ppm_law.Goals as goal

pub returns : goal.returns
returns c = ppm_laws
