use Rattle.preflight_cert.proofs.NeedLemmas.{need_laws}
use Rattle.preflight_cert.proofs.laws.need_law.Goals as goal

pub returns : goal.returns
returns c = need_laws c.created_index_law.ensures
