use Rattle.std.proofs.Common.{◌≡◌, ◌⊎◌, ℕ, ◌-◌, ◌<◌, ◌≤◌, get_or, length}
use Rattle.mapping.specs.declared.geometry.Colour.{Colour}
use Rattle.raster_ops.specs.Bytes.{HasBytes}
use Rattle.raster_ops.specs.Selectors.{selected_at}
use Rattle.raster_ops.proofs.selector.Selector.select_eights.Given as goal

-- the colours so far are chosen, always whole eights, and the others are as they were
abbrev pub invariant-loop-done : goal.invariant-loop-done
invariant-loop-done l = record {
  from : l.from ≤ l.done;
  within : l.done ≤ l.to;
  long : length l.chosen ≡ length l.fn.chosen;
  each : (x : ℕ) (d : Colour) → l.from ≤ x → x < l.done → get_or l.chosen x d ≡ selected_at l.self l.patterns l.sources x;
  parts : (x : ℕ) (d : Colour) → l.from ≤ x → x < l.done → HasBytes (get_or l.chosen x d);
  others : (x : ℕ) (d : Colour) → x < l.from ⊎ l.done ≤ x → get_or l.chosen x d ≡ get_or l.fn.chosen x d;
}

abbrev pub decreases-loop-done : goal.decreases-loop-done
decreases-loop-done l = l.to - l.done
