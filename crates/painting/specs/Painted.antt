-- How a paint changes the pixels of a shape.
use Rattle.std.specs.Prelude.{◌≡◌, ℕ, Bool, true, ◌&&◌}
use Rattle.mapping.specs.Mixes.{mixed_by}
use Rattle.mapping.specs.declared.geometry.Colour.{Colour}
use Rattle.mapping.specs.declared.mix.Mix.{Mix}
use Rattle.canvas.specs.CanvasState.{CanvasState}
use Rattle.canvas.specs.Writing.{Repaints}
use Rattle.dc_stack.specs.Clip.{ClipValue, in_boxes}

-- a paint: the clip, the pixels for which it has a colour, and the new colour of each
pub record PaintValue : Type 0 where
  pub clip : ClipValue
  pub has : ℕ → ℕ → Bool
  pub makes : ℕ → ℕ → Colour → Colour

-- a paint that mixes every pixel
abbrev pub mixing_paint : ClipValue → Mix → PaintValue
mixing_paint clip mix = record { clip = clip; has = λ x y. true; makes = λ x y old. mixed_by mix old }

-- a paint writes the pixel of a shape: the clip contains it, and the paint has a colour there
abbrev pub paints : PaintValue → (ℕ → ℕ → Bool) → ℕ → ℕ → Bool
paints paint shape x y = in_boxes paint.clip x y && shape x y && paint.has x y

-- exactly the pixels that a paint writes of a shape were painted
abbrev pub PaintsShape : PaintValue → (ℕ → ℕ → Bool) → CanvasState → CanvasState → Type 0
PaintsShape paint shape old new = Repaints (paints paint shape) paint.makes old new

-- two paints do the same where they have a colour
pub record SamePaint (one other : PaintValue) : Type 0 where
  pub clip : one.clip ≡ other.clip
  pub has : (x y : ℕ) → one.has x y ≡ other.has x y
  pub makes : (x y : ℕ) (old : Colour) → one.has x y ≡ true → one.makes x y old ≡ other.makes x y old
