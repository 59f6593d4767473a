-- The ends of the others are still to come.
use Rattle.std.proofs.Common.{◌≡◌, drop}
use Rattle.span_fill.specs.Events.{first_begin, first_end}
use Rattle.span_fill.proofs.events.next_event.Given as goal

abbrev pub invariant-loop-edge : goal.invariant-loop-edge
invariant-loop-edge l =
    first_end l.event (drop l.edge-index l.active) ≡ first_end (first_begin (drop l.begun l.edges)) l.active
