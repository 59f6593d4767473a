-- How writes are combined.
use Rattle.std.specs.Prelude.{◌≡◌, ℕ, ◌+◌, ◌-◌, ◌*◌, ◌≤◌, Bool, true, false, ◌&&◌, ◌||◌, length}
use Rattle.mapping.specs.declared.geometry.Colour.{Colour}
use Rattle.canvas.specs.CanvasState.{CanvasState, HasPixel, HasRow}
use Rattle.canvas.specs.Writing.{Repaints, in_row_span}

-- a canvas has columns, and a colour for each of its pixels
pub record IsWhole (canvas : CanvasState) : Type 0 where
  pub wide : 1 ≤ canvas.width
  pub whole : length canvas.colours ≡ canvas.rows * canvas.width

-- no pixel of the canvas passes the test
abbrev pub PassesNone : CanvasState → (ℕ → ℕ → Bool) → Type 0
PassesNone canvas test = (x y : ℕ) → HasPixel canvas x y → test x y ≡ false

-- two tests agree on each pixel of the canvas
abbrev pub SameTest : CanvasState → (ℕ → ℕ → Bool) → (ℕ → ℕ → Bool) → Type 0
SameTest canvas t u = (x y : ℕ) → HasPixel canvas x y → t x y ≡ u x y

-- two functions give the same for each pixel of the canvas that passes the test
abbrev pub SameWhere : CanvasState → (ℕ → ℕ → Bool) → (f g : ℕ → ℕ → Colour → Colour) → Type 0
SameWhere canvas test f g = (x y : ℕ) (old : Colour) → HasPixel canvas x y → test x y ≡ true → f x y old ≡ g x y old

-- If no pixel passes the test, nothing changes. What is written depends only on the pixels of the canvas. Two writes
-- that share no pixel are one write, a span counts once per column, each pixel counts at most once per write, and a
-- canvas stays whole.
pub record WritingLaws : Type 0 where
  pub none :
      (t : ℕ → ℕ → Bool) (f : ℕ → ℕ → Colour → Colour) (canvas : CanvasState) → IsWhole canvas
      → PassesNone canvas t → Repaints t f canvas canvas
  pub same :
      (t u : ℕ → ℕ → Bool) (f g : ℕ → ℕ → Colour → Colour) (old new : CanvasState) → IsWhole old
      → SameTest old t u → SameWhere old t f g → Repaints t f old new → Repaints u g old new
  pub both :
      (t u : ℕ → ℕ → Bool) (f : ℕ → ℕ → Colour → Colour) (old between new : CanvasState) → IsWhole old
      → PassesNone old (λ x y. t x y && u x y) → Repaints t f old between → Repaints u f between new
      → Repaints (λ x y. t x y || u x y) f old new
  pub span :
      (y from to : ℕ) (f : ℕ → ℕ → Colour → Colour) (old new : CanvasState) → IsWhole old
      → HasRow old y → from ≤ to → to ≤ old.width → Repaints (in_row_span y from to) f old new
      → new.writes ≡ old.writes + (to - from)
  pub bounded :
      (t : ℕ → ℕ → Bool) (f : ℕ → ℕ → Colour → Colour) (old new : CanvasState) → Repaints t f old new
      → new.writes ≤ old.writes + old.rows * old.width
  pub stays_whole :
      (t : ℕ → ℕ → Bool) (f : ℕ → ℕ → Colour → Colour) (old new : CanvasState) → Repaints t f old new
      → IsWhole old → IsWhole new
