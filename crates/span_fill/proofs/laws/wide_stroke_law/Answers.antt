-- The law of wide strokes.
use Rattle.span_fill.proofs.WideLawLemmas as lemmas
use Rattle.span_fill.proofs.laws.wide_stroke_law.Goals as goal

pub returns : goal.returns
returns c = lemmas.wide_stroke_laws
