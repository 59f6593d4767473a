use Rattle.std.proofs.Common.{◌≡◌, ℕ, ◌<◌, cond, eqb, get_or, length}
use Rattle.std.specs.Int.{bit_at}
use Rattle.mapping.specs.declared.geometry.Colour.{Colour}
use Rattle.raster_ops.proofs.patterns.pattern.Given as goal

-- the colours so far are those of the cells and the gaps
abbrev pub invariant-loop-i : goal.invariant-loop-i
invariant-loop-i l = record {
  long : length l.colours ≡ 8;
  each : (k : ℕ) (d : Colour) → k < l.i → get_or l.colours k d ≡ cond (eqb (bit_at l.cells k) 1) l.colour l.gaps;
}
