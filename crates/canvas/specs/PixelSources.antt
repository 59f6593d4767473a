-- Sources that return pixels one by one.
use Rattle.std.specs.Prelude.{◌≡◌, ℕ, ◌+◌, ◌<◌, Bool, true, false, ◌&&◌, not}
use Rattle.canvas.specs.CanvasState.{CanvasState}
use Rattle.canvas.specs.Writing.{is_at}
use Rattle.canvas.specs.declared.pixel_source.PixelAt.{PixelAt}
use Rattle.canvas.specs.declared.pixel_source.PixelStep.{PixelStep}
use Rattle.canvas.specs.declared.pixel_source.PixelStep.TheVariants.{End, Nothing, Pixel}

-- a remaining pixel was returned with its place, and every other one still remains
pub record GivesOne (places : ℕ → ℕ → ℕ) (old new : ℕ → ℕ → Bool) (before after : ℕ) (pixel : PixelAt) : Type 0 where
  pub given : old pixel.x pixel.y ≡ true
  pub place : pixel.place ≡ places pixel.x pixel.y
  pub others : (x y : ℕ) → new x y ≡ (old x y && not (is_at pixel.x pixel.y x y))
  pub less : after < before

-- the same pixels remain after the step
pub record GivesNone (old new : ℕ → ℕ → Bool) (before after : ℕ) : Type 0 where
  pub same : (x y : ℕ) → new x y ≡ old x y
  pub less : after < before

-- the step returns one of the pixels that remain, or nothing; or it ends, and only if none remains
abbrev pub GivesNext : (ℕ → ℕ → ℕ) → (ℕ → ℕ → Bool) → ℕ → PixelStep → (ℕ → ℕ → Bool) → ℕ → Type 0
GivesNext places old before (Pixel pixel) new after = GivesOne places old new before after pixel
GivesNext places old before Nothing new after = GivesNone old new before after
GivesNext places old before End new after = (x y : ℕ) → old x y ≡ false

-- the source has ended
abbrev pub is_end : PixelStep → Bool
is_end (Pixel pixel) = false
is_end Nothing = false
is_end End = true

-- a source that has ended is as it should be at its end, and every other will end as the source before it would
abbrev pub KeepsEnd : {S : Type 0} → (S → S → Type 0) → Bool → S → S → Type 0
KeepsEnd ends_as true old new = ends_as old new
KeepsEnd {S} ends_as false old new = (end : S) → ends_as new end → ends_as old end

-- a canvas with this many more writes in its count
abbrev pub counted : ℕ → CanvasState → CanvasState
counted n canvas = record {
  width = canvas.width;
  first = canvas.first;
  rows = canvas.rows;
  colours = canvas.colours;
  writes = canvas.writes + n;
  most = canvas.most;
}
