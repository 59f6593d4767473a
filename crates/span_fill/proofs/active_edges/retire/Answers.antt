-- The test is the closure's.
use Rattle.std.proofs.Common.{rules}
use Rattle.std.proofs.lemmas.Fn.{filter_same}
use Rattle.span_fill.specs.Edges.{goes_to}
use Rattle.span_fill.proofs.active_edges.retire.Goals as goal

pub returns-clause-edges : goal.returns-clause-edges
returns-clause-edges c =
    filter_same _ (goes_to c.args.row) _ (λ x b f' k. search rules) _ _ c.retain.ensures.filtered
