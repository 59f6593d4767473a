-- The states so far have let go of the index, and the others are as they were.
use Rattle.std.proofs.Common.{◌≡◌, drop, map, take}
use Rattle.dc_stack.specs.Deleting.{dc_without}
use Rattle.dc_stack.specs.Values.{dc_value}
use Rattle.dc_stack.proofs.machine.objects.all_let_go.Given as goal

abbrev pub invariant-loop-dc : goal.invariant-loop-dc
invariant-loop-dc l = record {
  done : take l.dc-index (map dc_value l.saved) ≡ map (dc_without l.handle.0) (take l.dc-index (map dc_value l.fn.saved));
  others : drop l.dc-index (map dc_value l.saved) ≡ drop l.dc-index (map dc_value l.fn.saved);
  clips : map (λ dc. dc.clip) l.saved ≡ map (λ dc. dc.clip) l.fn.saved;
}
