use Rattle.preflight_cert.proofs.PreparationLemmas.{preparation_laws}
use Rattle.preflight_cert.proofs.laws.preparation_law.Goals as goal

pub returns : goal.returns
returns c = preparation_laws c.cell_law.ensures c.wide_cell_law.ensures c.opening_law.ensures
