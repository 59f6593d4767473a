-- Those so far are moved, the others aren't yet, and all will be in order if those so far are and the others go on so.
use Rattle.std.proofs.Common.{◌≡◌, ◌&&◌, drop, map, take}
use Rattle.span_fill.specs.Edges.{moved}
use Rattle.span_fill.specs.Insertion.{are_in_order, lowest}
use Rattle.span_fill.proofs.crossing_moves.move_all.Given as goal

abbrev pub invariant-loop-edge : goal.invariant-loop-edge
invariant-loop-edge l = record {
  done : take l.edge-index l.active ≡ map moved (take l.edge-index l.fn.active);
  others : drop l.edge-index l.active ≡ drop l.edge-index l.fn.active;
  order : (l.ordered && are_in_order l.before (map moved (drop l.edge-index l.fn.active))) ≡ are_in_order lowest (map moved l.fn.active);
}
