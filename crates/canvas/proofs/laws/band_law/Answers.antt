use Rattle.canvas.proofs.BandLawLemmas.{band_laws}
use Rattle.canvas.proofs.laws.band_law.Goals as goal

pub returns : goal.returns
returns c = band_laws
