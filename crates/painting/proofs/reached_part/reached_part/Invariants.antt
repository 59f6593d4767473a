-- What the lines so far cover of the region lies in what is reached.
use Rattle.std.proofs.Common.{◌≡◌, ℕ, ◌||◌, true, length}
use Rattle.span_fill.specs.Spans.{in_region}
use Rattle.span_fill.specs.WideStrokes.{in_wide_stroke}
use Rattle.painting.specs.ReachedParts.{IsWithin}
use Rattle.painting.proofs.reached_part.reached_part.Given as goal

abbrev pub invariant-loop-line : goal.invariant-loop-line
invariant-loop-line g l = record {
  within : IsWithin l.fn.drawn l.reached;
  all : (x y : ℕ) → in_region l.fn.drawn x y ≡ true → in_wide_stroke l.fn.nib (g.O.Outline.lines l.fn.outline) x y ≡ true
      → (in_region l.reached x y || in_wide_stroke l.fn.nib (g.O.Outline.lines l.lines) x y) ≡ true;
}

abbrev pub decreases-loop-line : goal.decreases-loop-line
decreases-loop-line g l = length (g.O.Outline.lines l.lines)
