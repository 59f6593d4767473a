use Rattle.std.proofs.Common.{◌≡◌, ℕ, ◌<◌, get_or}
use Rattle.mapping.specs.declared.geometry.Colour.{Colour}
use Rattle.canvas.proofs.parts.put_few.Given as goal

-- the colours so far are this one
abbrev pub invariant-loop-k : goal.invariant-loop-k
invariant-loop-k l = (k : ℕ) (d : Colour) → k < l.k → get_or l.part k d ≡ l.colour
