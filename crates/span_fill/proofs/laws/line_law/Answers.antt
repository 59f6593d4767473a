-- The law of lines.
use Rattle.span_fill.proofs.LineLaw as lemmas
use Rattle.span_fill.proofs.laws.line_law.Goals as goal

pub returns : goal.returns
returns c = lemmas.line_law
