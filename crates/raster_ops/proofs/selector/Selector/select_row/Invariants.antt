use Rattle.std.proofs.Common.{◌≡◌, ◌⊎◌, ℕ, ◌<◌, ◌≤◌, get_or, length}
use Rattle.mapping.specs.declared.geometry.Colour.{Colour}
use Rattle.raster_ops.specs.Bytes.{HasBytes}
use Rattle.raster_ops.specs.Selectors.{selected_at}
use Rattle.raster_ops.proofs.selector.Selector.select_row.Given as goal

-- the colours so far are chosen, and the others are as they were
abbrev pub invariant-loop-x : goal.invariant-loop-x
invariant-loop-x l = record {
  long : length l.chosen ≡ length l.fn.chosen;
  each : (x : ℕ) (d : Colour) → l.fn.from ≤ x → x < l.x → get_or l.chosen x d ≡ selected_at l.self l.patterns l.sources x;
  parts : (x : ℕ) (d : Colour) → l.fn.from ≤ x → x < l.x → HasBytes (get_or l.chosen x d);
  others : (x : ℕ) (d : Colour) → x < l.fn.from ⊎ l.x ≤ x → get_or l.chosen x d ≡ get_or l.fn.chosen x d;
}
