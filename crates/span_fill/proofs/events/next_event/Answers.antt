-- One end more.
use Rattle.std.proofs.Common.{drop, pos, false, ap, sym, ◌+◌, ◌∙◌}
use Rattle.std.proofs.lemmas.List.{drop_more}
use Rattle.span_fill.specs.Events.{first_end}
use Rattle.span_fill.specs.declared.edge.ActiveEdge.{ActiveEdge}
use Rattle.span_fill.proofs.events.next_event.Goals as goal

-- an edge where there is none
abbrev none : ActiveEdge
none = record { bottom = 0; is_down = false; column = pos 0; rest = pos 0; divisor = pos 0; step = pos 0; more = pos 0 }

pub loop-edge-preserved : goal.loop-edge-preserved
loop-edge-preserved c =
    let at = c.loop-edge.edge-index in
    let next = drop_more c.args.active.now at none c.loop-edge-test.true in
    ap (λ row. first_end row (drop (at + 1) c.args.active.now)) c.min-event.ensures ∙ sym (ap (first_end c.loop-edge.event) next) ∙ c.loop-edge.invariant
