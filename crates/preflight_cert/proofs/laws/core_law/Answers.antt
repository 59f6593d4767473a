-- The law, part by part.
use Rattle.preflight_cert.proofs.CoreLemmas.{core_laws}
use Rattle.preflight_cert.proofs.laws.core_law.Goals as goal

pub returns : goal.returns
returns c = core_laws c.text_law.ensures
