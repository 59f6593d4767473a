use Rattle.std.proofs.Common.{◌≡◌, ℕ, ◌+◌, ◌<◌, get_or, length}
use Rattle.mapping.specs.declared.geometry.Colour.{Colour}
use Rattle.raster_ops.specs.Bytes.{HasBytes}
use Rattle.raster_ops.specs.Selectors.{selected_at}
use Rattle.raster_ops.proofs.selector.Selector.selected_eight.Given as goal

-- the colours so far are chosen
abbrev pub invariant-loop-k : goal.invariant-loop-k
invariant-loop-k l = record {
  long : length l.colours ≡ 8;
  each : (k : ℕ) (d : Colour) → k < l.k → get_or l.colours k d ≡ selected_at l.self l.patterns l.sources (l.at + k);
  parts : (k : ℕ) (d : Colour) → k < l.k → HasBytes (get_or l.colours k d);
}
