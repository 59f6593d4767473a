-- The sides fit.
use Rattle.proportions.proofs.FittingLemmas.{fits}
use Rattle.proportions.proofs.laws.fitting_law.Goals as goal

pub returns : goal.returns
returns c = fits
