use Rattle.std.proofs.Common.{◌≡◌, ℕ, ◌<◌, ◌≤◌, get_or}
use Rattle.mapping.specs.declared.geometry.Colour.{Colour}
use Rattle.mapping.specs.Mixes.{mixed_by}
use Rattle.canvas.specs.MixRows.{mix_at}
use Rattle.canvas.proofs.parts.mix_all_by.Given as goal

-- the colours so far are changed, and the others aren't yet
abbrev pub invariant-loop-k : goal.invariant-loop-k
invariant-loop-k l = record {
  done : (k : ℕ) (d : Colour) → k < l.k → get_or l.part k d ≡ mixed_by (mix_at l.keeps l.flips k) (get_or l.fn.part k d);
  left : (k : ℕ) (d : Colour) → l.k ≤ k → get_or l.part k d ≡ get_or l.fn.part k d;
}
