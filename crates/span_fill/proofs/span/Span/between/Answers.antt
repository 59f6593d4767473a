-- Both ends are those of the span, or the two numbers.
use Rattle.std.proofs.lemmas.Int.{to_z-of_z}
use Rattle.span_fill.proofs.SpanLemmas.{between_two}
use Rattle.span_fill.proofs.span.Span.between.Goals as goal

pub returns-clause-numbers : goal.returns-clause-numbers
returns-clause-numbers c = λ n.
    let from = c.ranges.from in
    let to = c.ranges.to in
    between_two c.args.self c.clamped-first.result c.clamped.result c.args.from c.args.to n c.clamped-first.ensures.least c.clamped.ensures.least c.clamped.ensures.most
    (simp to_z-of_z at c.clamped-first.ensures.before) (simp to_z-of_z at c.clamped.ensures.before)
