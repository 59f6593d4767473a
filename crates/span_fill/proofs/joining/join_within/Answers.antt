-- The spans that the parts are joined to, or none where there is nothing.
use Rattle.std.proofs.Common.{length, arith, refl, sym, ◌∙◌}
use Rattle.std.proofs.lemmas.Bool.{eqb-true}
use Rattle.span_fill.proofs.JoiningLemmas.{empty_interval, joined_is_row, no_parts}
use Rattle.span_fill.proofs.joining.join_within.Goals as goal

pub returns-then-interval-clause-spans : goal.returns-then-interval-clause-spans
returns-then-interval-clause-spans c = empty_interval _ c.args.interval c.clear.new.self.items c.clear.ensures.items c.if-interval.true

pub returns-then-is_empty-clause-spans : goal.returns-then-is_empty-clause-spans
returns-then-is_empty-clause-spans c =
    let zero = eqb-true (length c.args.parts.now) 0 (sym c.is_empty.ensures ∙ c.if-is_empty.true) in
    no_parts c.args.parts.now c.args.interval c.clear-then-is_empty.new.self.items c.clear-then-is_empty.ensures.items zero

pub returns-clause-spans : goal.returns-clause-spans
returns-clause-spans c =
    rw c.join.ensures.spans
    (joined_is_row c.args.interval c.args.parts.now (record { from = c.args.interval.from; to = c.args.interval.from }) c.requires.sorted (omega arith) refl refl)
