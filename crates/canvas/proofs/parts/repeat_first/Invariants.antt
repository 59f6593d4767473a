use Rattle.std.proofs.Common.{length, ◌-◌, ◌≤◌}
use Rattle.mapping.specs.declared.geometry.Colour.{Colour}
use Rattle.canvas.specs.PartsMade.{EachIs}
use Rattle.canvas.proofs.parts.repeat_first.Given as goal

-- a colour that all of the first colours have is that of all filled so far
abbrev pub invariant-loop-filled : goal.invariant-loop-filled
invariant-loop-filled l = record {
  reach : l.fn.first ≤ l.filled;
  within : l.filled ≤ length l.part;
  same : (colour : Colour) → EachIs l.fn.first l.fn.part (λ k any. colour) → EachIs l.filled l.part (λ k any. colour);
}

abbrev pub decreases-loop-filled : goal.decreases-loop-filled
decreases-loop-filled l = length l.initial.part - l.filled
