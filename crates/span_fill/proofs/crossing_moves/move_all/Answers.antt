-- One edge more is moved.
use Rattle.std.proofs.Common.{FitsSigned, w64, ◌<◌, length, pos, false, ap, subst, sym, ◌∙◌, arith, rules}
use Rattle.std.proofs.Math.ListN.{set}
use Rattle.std.proofs.lemmas.Int.{to_z-of_z}
use Rattle.span_fill.specs.Edges.{EdgeCanMove, moved}
use Rattle.span_fill.specs.declared.edge.ActiveEdge.{ActiveEdge}
use Rattle.mapping.proofs.ChangedLists.{changed_more, first_same}
use Rattle.span_fill.proofs.MoveLemmas.{order_step}
use Rattle.span_fill.proofs.crossing_moves.move_all.Goals as goal

-- an edge where there is none
abbrev none : ActiveEdge
none = record { bottom = 0; is_down = false; column = pos 0; rest = pos 0; divisor = pos 0; step = pos 0; more = pos 0 }

pub move_on-requires : goal.move_on-requires
move_on-requires c =
    let at = c.loop-edge.edge-index in
    let within : at < length c.args.active.now = omega arith in
    let same = first_same at none c.args.active.now c.loop-edge.active within (omega arith) c.loop-edge.invariant.others in
    subst EdgeCanMove (sym same.0) (c.requires at none within)

pub loop-edge-preserved : goal.loop-edge-preserved
loop-edge-preserved c =
    let at = c.loop-edge.edge-index in
    let within : at < length c.args.active.now = omega arith in
    let same = first_same at none c.args.active.now c.loop-edge.active within (omega arith) c.loop-edge.invariant.others in
    let after = set c.loop-edge.active at c.move_on.new.self in
    let more = changed_more moved at none c.args.active.now c.loop-edge.active after within c.loop-edge.auto.active c.loop-edge.invariant.done c.loop-edge.invariant.others (ap (set c.loop-edge.active at) c.move_on.ensures) in
    let edge_is = c.move_on.ensures ∙ ap moved same.0 in
    let fits : FitsSigned w64 c.move_on.new.self.column = search rules in
    let test = simp to_z-of_z at c.goes_on-ordered.ensures in
    record {
      done = more.0;
      others = more.1;
      order = simp to_z-of_z (rw (test, edge_is) (order_step at none c.args.active.now c.loop-edge.ordered _ _ within c.loop-edge.invariant.order));
    }
