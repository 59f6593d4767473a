-- The law of rows.
use Rattle.span_fill.proofs.RowLawLemmas as lemmas
use Rattle.span_fill.proofs.laws.row_law.Goals as goal

pub returns : goal.returns
returns c = lemmas.row_law
