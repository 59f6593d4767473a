use Rattle.std.proofs.Common.{◌≡◌, ◌≤◌}
use Rattle.dc_stack.proofs.CountLemmas.{first_count}
use Rattle.dc_stack.proofs.path.GatheredPath.count_points.Given as goal

-- the points of the pieces so far are counted, and aren't too many
abbrev pub invariant-loop-index : goal.invariant-loop-index
invariant-loop-index l = record {
  counted : l.count ≡ first_count l.self.pieces.items l.index;
  few : l.count ≤ 1048576;
}
