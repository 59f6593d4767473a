-- What is written through a visited mask.
use Rattle.std.specs.Prelude.{◌≡◌, ℕ, ◌&&◌, ◌||◌, not}
use Rattle.mapping.specs.Mixes.{mixed_by}
use Rattle.mapping.specs.declared.mix.Mix.{Mix}
use Rattle.canvas.specs.CanvasState.{CanvasState}
use Rattle.canvas.specs.Writing.{Repaints}
use Rattle.span_fill.specs.declared.line.Line.{Line}
use Rattle.painting.specs.LinePixels.{is_visible}
use Rattle.painting.specs.VisitedMask.{VisitedMaskState, is_taken}

-- the pixels of a line within the mask's box are marked as visited, and those that weren't before were mixed
pub record VisitsLine (line : Line) (mix : Mix) (old new : VisitedMaskState) (before after : CanvasState) : Type 0 where
  pub region : new.region ≡ old.region
  pub taken : (x y : ℕ) → is_taken new x y ≡ (is_taken old x y || is_visible old.region line x y)
  pub written : Repaints (λ x y. is_visible old.region line x y && not (is_taken old x y)) (λ x y old. mixed_by mix old) before after
