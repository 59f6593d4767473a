-- Sources that return row spans one by one.
use Rattle.std.specs.Prelude.{◌≡◌, ℕ, ◌<◌, Bool, true, false, ◌&&◌, not}
use Rattle.mapping.specs.declared.geometry.Colour.{Colour}
use Rattle.canvas.specs.CanvasState.{CanvasState}
use Rattle.canvas.specs.PixelSources.{GivesNone, counted}
use Rattle.canvas.specs.Writing.{Repaints, in_row_span}
use Rattle.canvas.specs.declared.span_source.RowSpan.{RowSpan}
use Rattle.canvas.specs.declared.span_source.SpanStep.{SpanStep}
use Rattle.canvas.specs.declared.span_source.SpanStep.TheVariants.{End, Nothing, Span}

-- the remaining pixels of a span were returned, and every other one still remains
pub record GivesSpan (old new : ℕ → ℕ → Bool) (before after : ℕ) (span : RowSpan) : Type 0 where
  pub given : (x y : ℕ) → in_row_span span.y span.from span.to x y ≡ true → old x y ≡ true
  pub others : (x y : ℕ) → new x y ≡ (old x y && not (in_row_span span.y span.from span.to x y))
  pub less : after < before

-- the step returns a span of pixels that remain, or nothing; or it ends, and only if none remains
abbrev pub GivesNextSpan : (ℕ → ℕ → Bool) → ℕ → SpanStep → (ℕ → ℕ → Bool) → ℕ → Type 0
GivesNextSpan old before (Span span) new after = GivesSpan old new before after span
GivesNextSpan old before Nothing new after = GivesNone old new before after
GivesNextSpan old before End new after = (x y : ℕ) → old x y ≡ false

-- the source has ended
abbrev pub is_last : SpanStep → Bool
is_last (Span span) = false
is_last Nothing = false
is_last End = true

-- the pixels of a span were changed by `made`; this many were written and still have to be counted
abbrev pub ChangesSpan : RowSpan → (Colour → Colour) → ℕ → CanvasState → CanvasState → Type 0
ChangesSpan span made count old new = Repaints (in_row_span span.y span.from span.to) (λ x y c. made c) old (counted count new)
