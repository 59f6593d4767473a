-- The strips that begin are those of the lines, in another order.
use Rattle.std.proofs.Common.{ap, ◌∙◌, ◌||◌}
use Rattle.span_fill.specs.StrokeRows.{wide_edges_have}
use Rattle.span_fill.proofs.StrokingLemmas.{have_sorted}
use Rattle.span_fill.proofs.strokes.Strokes.begin.Goals as goal

pub returns-clause-have : goal.returns-clause-have
returns-clause-have c = λ x y h k.
    ap (λ l. wide_edges_have c.args.nib l x y || wide_edges_have c.args.nib c.sort_wide_edges.new.wide_edges.items x y) c.clear.ensures.items
    ∙ have_sorted c.args.nib c.collect_wide_edges.new.wide_edges.items c.sort_wide_edges.new.wide_edges.items x y c.sort_wide_edges.ensures.permutation
    ∙ c.collect_wide_edges.ensures.have x y h k
