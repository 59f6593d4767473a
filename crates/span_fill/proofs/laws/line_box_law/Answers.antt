-- The law of boxes around lines.
use Rattle.span_fill.proofs.LineBoxLemmas as lemmas
use Rattle.span_fill.proofs.laws.line_box_law.Goals as goal

pub returns : goal.returns
returns c = lemmas.line_box_laws
