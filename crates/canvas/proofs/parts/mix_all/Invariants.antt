use Rattle.std.proofs.Common.{◌≡◌, ℕ, ◌<◌, ◌≤◌, get_or}
use Rattle.mapping.specs.declared.geometry.Colour.{Colour}
use Rattle.mapping.specs.Mixes.{mixed_by}
use Rattle.canvas.proofs.parts.mix_all.Given as goal

-- the colours so far are changed, and the others aren't yet
abbrev pub invariant-loop-colour : goal.invariant-loop-colour
invariant-loop-colour l = record {
  done : (k : ℕ) (d : Colour) → k < l.colour-index → get_or l.part k d ≡ mixed_by l.mix (get_or l.fn.part k d);
  left : (k : ℕ) (d : Colour) → l.colour-index ≤ k → get_or l.part k d ≡ get_or l.fn.part k d;
}
