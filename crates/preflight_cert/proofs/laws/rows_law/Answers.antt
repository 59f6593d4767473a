use Rattle.preflight_cert.proofs.RowsLemmas.{rows_laws}
use Rattle.preflight_cert.proofs.laws.rows_law.Goals as goal

pub returns : goal.returns
returns c = rows_laws
