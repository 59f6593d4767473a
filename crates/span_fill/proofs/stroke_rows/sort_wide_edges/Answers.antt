-- The key is the closure's.
use Rattle.std.proofs.Common.{rules}
use Rattle.std.specs.Prelude.{unsigned_abs}
use Rattle.std.proofs.lemmas.List.Sorted.{IsNonDecreasingBy-from_sort_by_key}
use Rattle.span_fill.proofs.stroke_rows.sort_wide_edges.Goals as goal

pub returns-clause-sorted : goal.returns-clause-sorted
returns-clause-sorted c =
    IsNonDecreasingBy-from_sort_by_key (λ edge. unsigned_abs edge.seen.from) _ c.sort_unstable_by_key.ensures.sorted (λ a r q k. search rules)
