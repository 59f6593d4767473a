use Rattle.std.proofs.Common.{◌≡◌, ℕ, ◌-◌, ◌%◌, ◌<◌, ◌≤◌, get_or, length}
use Rattle.mapping.specs.declared.geometry.Colour.{Colour}
use Rattle.mapping.specs.Mixes.{mixed_by}
use Rattle.canvas.specs.MixRows.{mix_at}
use Rattle.canvas.proofs.parts.mix_eights.Given as goal

-- the colours so far are mixed, always whole eights, and the others aren't yet
abbrev pub invariant-loop-done : goal.invariant-loop-done
invariant-loop-done l = record {
  within : l.done ≤ length l.part;
  turn : l.done % 8 ≡ 0;
  mixed : (k : ℕ) (d : Colour) → k < l.done → get_or l.part k d ≡ mixed_by (mix_at l.keeps l.flips k) (get_or l.fn.part k d);
  left : (k : ℕ) (d : Colour) → l.done ≤ k → get_or l.part k d ≡ get_or l.fn.part k d;
}

abbrev pub decreases-loop-done : goal.decreases-loop-done
decreases-loop-done l = length l.initial.part - l.done
