-- The key is the closure's.
use Rattle.std.proofs.Common.{rules}
use Rattle.std.proofs.lemmas.List.Sorted.{IsNonDecreasingBy-from_sort_by_key}
use Rattle.span_fill.specs.Edges.{edge_first_row}
use Rattle.span_fill.proofs.active_edges.sort_edges.Goals as goal

pub returns-clause-sorted : goal.returns-clause-sorted
returns-clause-sorted c =
    IsNonDecreasingBy-from_sort_by_key edge_first_row _ c.sort_unstable_by_key.ensures.sorted (λ a r q k. search rules)
