-- The ends of the span are the steps that reach the interval's.
use Rattle.span_fill.specs.MajorLines.{major_step}
use Rattle.span_fill.proofs.ClipLemmas.{between_rising, between_falling}
use Rattle.span_fill.proofs.clip.steps_across.Goals as goal

pub returns-then-rise-lt0-clause-exact : goal.returns-then-rise-lt0-clause-exact
returns-then-rise-lt0-clause-exact c = λ u v on.
    between_falling c.fall.result c.fall-then-rise-lt0.result c.args.within.from c.args.within.to (major_step c.args.major u) v (c.fall.ensures.exact u v on) (c.fall-then-rise-lt0.ensures.exact u v on)

pub returns-else-rise-lt0-clause-exact : goal.returns-else-rise-lt0-clause-exact
returns-else-rise-lt0-clause-exact c = λ u v on.
    between_rising c.rise-else-rise-lt0.result c.rise-else-rise-lt0-2.result c.args.within.from c.args.within.to (major_step c.args.major u) v (c.rise-else-rise-lt0.ensures.exact u v on) (c.rise-else-rise-lt0-2.ensures.exact u v on)
