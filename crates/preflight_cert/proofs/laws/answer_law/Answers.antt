-- The law of answers.
use Rattle.preflight_cert.proofs.AnswerLemmas.{answer_laws}
use Rattle.preflight_cert.proofs.laws.answer_law.Goals as goal

pub returns : goal.returns
returns c = answer_laws c.content_law.ensures c.file_law.ensures c.opening_law.ensures c.size_law.ensures
