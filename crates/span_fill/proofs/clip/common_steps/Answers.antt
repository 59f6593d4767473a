-- What both spans have.
use Rattle.std.proofs.Common.{arith}
use Rattle.span_fill.specs.MajorLines.{major_step}
use Rattle.span_fill.proofs.clip.common_steps.Goals as goal

pub returns-then-along-clause-exact : goal.returns-then-along-clause-exact
returns-then-along-clause-exact c = λ a b on.
    let along = c.steps_along-along.ensures.exact a b on in
    let columns = c.ordered.ensures.same a in
    let none = c.if-along.true in (
      λ h. let from = h.0 in let to = h.1 in absurd (omega (arith, none, from, to)),
      λ h. along.1 (columns.1 h.0),
    )

pub returns-clause-exact : goal.returns-clause-exact
returns-clause-exact c = λ a b on.
    let both = c.common.ensures.both (major_step c.args.major a) in
    let along = c.steps_along-along.ensures.exact a b on in
    let across = c.steps_across.ensures.exact a b on in
    let columns = c.ordered.ensures.same a in
    let rows = c.ordered-2.ensures.same b in (
      λ h. let parts = both.0 h in (columns.0 (along.0 parts.0), rows.0 (across.0 parts.1)),
      λ h. both.1 (along.1 (columns.1 h.0), across.1 (rows.1 h.1)),
    )
