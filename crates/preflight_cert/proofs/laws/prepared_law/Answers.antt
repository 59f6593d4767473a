-- The law of prepared certificates.
use Rattle.preflight_cert.proofs.PreparedLawLemmas.{prepared_laws}
use Rattle.preflight_cert.proofs.laws.prepared_law.Goals as goal

pub returns : goal.returns
returns c =
    prepared_laws c.box_law.ensures c.numbers_law.ensures c.opening_law.ensures c.need_law.ensures c.preparation_law.ensures c.text_law.ensures
    c.answer_law.ensures
