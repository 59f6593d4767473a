-- The ends of the span are the steps that reach the interval's.
use Rattle.span_fill.specs.MajorLines.{major_step}
use Rattle.span_fill.proofs.ClipLemmas.{between_rising, between_falling}
use Rattle.span_fill.proofs.clip.steps_along.Goals as goal

pub returns-then-is_forwards-clause-exact : goal.returns-then-is_forwards-clause-exact
returns-then-is_forwards-clause-exact c = λ u v on.
    between_rising c.run_up.result c.run_up-then-is_forwards.result c.args.within.from c.args.within.to (major_step c.args.major u) u (c.run_up.ensures.exact u v on) (c.run_up-then-is_forwards.ensures.exact u v on)

pub returns-else-is_forwards-clause-exact : goal.returns-else-is_forwards-clause-exact
returns-else-is_forwards-clause-exact c = λ u v on.
    between_falling c.run_down.result c.run_down-else-is_forwards.result c.args.within.from c.args.within.to (major_step c.args.major u) u (c.run_down.ensures.exact u v on) (c.run_down-else-is_forwards.ensures.exact u v on)
