use Rattle.std.proofs.Common.{◌≡◌, ℕ, ◌-◌, ◌%◌, ◌≤◌, get_or, length, cond, eqb, ltb, ◌&&◌}
use Rattle.mapping.specs.declared.geometry.Colour.{Colour}
use Rattle.canvas.proofs.parts.change_each_eighth.Given as goal

-- each eighth colour so far is changed, and no other
abbrev pub invariant-loop-at : goal.invariant-loop-at
invariant-loop-at g l = record {
  turn : l.at % 8 ≡ l.offset;
  from : l.offset ≤ l.at;
  each : (k : ℕ) (d : Colour) → get_or l.part k d ≡ cond (eqb (k % 8) l.offset && (ltb k l.at && ltb k (length l.part))) (g.C.PixelChange.made l.change (get_or l.fn.part k d)) (get_or l.fn.part k d);
}

abbrev pub decreases-loop-at : goal.decreases-loop-at
decreases-loop-at g l = length l.initial.part - l.at
