-- Where no edge has passed another, all are in order.
use Rattle.std.proofs.Common.{List, subst, sym, ◌∙◌, arith}
use Rattle.std.specs.List.Sorted.{IsNonDecreasingBy}
use Rattle.span_fill.specs.Edges.{column_of}
use Rattle.span_fill.specs.declared.edge.ActiveEdge.{ActiveEdge}
use Rattle.mapping.proofs.ChangedLists.{written_back}
use Rattle.span_fill.proofs.MoveLemmas.{in_order}
use Rattle.span_fill.proofs.crossing_moves.move_edges.Goals as goal

pub returns-clause-sorted : goal.returns-clause-sorted
returns-clause-sorted c = λ t.
    let edges = c.move_all.new.active in
    let there = written_back edges c.args.active.now.items c.args.active.now.len (omega (arith, c.move_all.auto.active, c.as_mut_slice.ensures.len)) in
    subst (λ (es : List ActiveEdge). IsNonDecreasingBy column_of es) (sym there) (in_order edges (sym c.move_all.ensures.order ∙ t))
