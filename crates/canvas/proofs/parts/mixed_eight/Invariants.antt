use Rattle.std.proofs.Common.{◌≡◌, ℕ, ◌+◌, ◌<◌, get_or, length}
use Rattle.mapping.specs.declared.geometry.Colour.{Colour}
use Rattle.mapping.specs.Mixes.{mixed_by}
use Rattle.canvas.specs.MixRows.{mix_at}
use Rattle.canvas.proofs.parts.mixed_eight.Given as goal

-- the colours so far are mixed
abbrev pub invariant-loop-k : goal.invariant-loop-k
invariant-loop-k l = record {
  long : length l.colours ≡ 8;
  each : (k : ℕ) (d : Colour) → k < l.k → get_or l.colours k d ≡ mixed_by (mix_at l.keeps l.flips (l.at + k)) (get_or l.part (l.at + k) d);
}
