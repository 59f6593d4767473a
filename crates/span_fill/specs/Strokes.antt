-- Which pixels lines have: each line has one for each step along its major axis, without its last point.
use Rattle.std.specs.Prelude.{◌≡◌, ℕ, ◌<◌, ℤ, pos, neg_ℤ, ◌-ℤ◌, ◌*ℤ◌, unsigned_abs, Bool, ◌&&◌, ◌||◌, if◌then◌else◌, int_le, int_lt, nat_lt, IsTrue, List}
use Rattle.std.specs.List.{list_any}
use Rattle.mapping.specs.declared.geometry.Point.{Point}
use Rattle.span_fill.specs.declared.line.Line.{Line}

-- the distance between two coordinates
abbrev pub far : ℤ → ℤ → ℕ
far a b = unsigned_abs (b -ℤ a)

-- u is one of the coordinates from the first to before the second
abbrev pub is_towards : ℤ → ℤ → ℤ → Bool
is_towards first last u = (int_le first u && int_lt u last) || (int_lt last u && int_le u first)

-- After `step` of `long` steps along its major axis, a line that moves by `short` on the minor axis is this far from a
-- position there, in units of which a pixel has `2 * long`.
abbrev pub twice_off : ℕ → ℤ → ℕ → ℤ → ℤ
twice_off long short step place = pos 2 *ℤ (pos step *ℤ short -ℤ pos long *ℤ place)

-- the line is nearest to this position then; of two equally near positions, it is the greater
abbrev pub is_nearest : ℕ → ℤ → ℕ → ℤ → Bool
is_nearest long short step place =
    int_le (neg_ℤ (pos long)) (twice_off long short step place) && int_lt (twice_off long short step place) (pos long)

-- the pixel is on a line from (u0, v0) to (u1, v1), where u is the major axis
abbrev pub is_along : ℤ → ℤ → ℤ → ℤ → ℤ → ℤ → Bool
is_along u0 v0 u1 v1 u v = is_towards u0 u1 u && is_nearest (far u0 u1) (v1 -ℤ v0) (far u0 u) (v -ℤ v0)

-- a line is y-major
abbrev pub is_y_major : Line → Bool
is_y_major line = nat_lt (far line.from.x line.to.x) (far line.from.y line.to.y)

-- the line has the pixel in column x of row y
abbrev pub on_line : Line → ℤ → ℤ → Bool
on_line line x y =
    if is_y_major line then is_along line.from.y line.from.x line.to.y line.to.x y x
    else is_along line.from.x line.from.y line.to.x line.to.y x y

-- one of the lines has the pixel (x, y)
abbrev pub in_stroke : List Line → ℕ → ℕ → Bool
in_stroke lines x y = list_any (λ line. on_line line (pos x) (pos y)) lines

-- the number of steps along the major axis
abbrev pub steps_of : Line → ℕ
steps_of line = if is_y_major line then far line.from.y line.to.y else far line.from.x line.to.x

-- the step at which the line has a pixel
abbrev pub step_at : Line → ℤ → ℤ → ℕ
step_at line x y = if is_y_major line then far line.from.y y else far line.from.x x

-- the line has exactly one pixel at this step
pub record HasStep (line : Line) (step : ℕ) : Type 0 where
  pub pixel : Point
  pub on : IsTrue (on_line line pixel.x pixel.y)
  pub at : step_at line pixel.x pixel.y ≡ step
  pub only : (x y : ℤ) → IsTrue (on_line line x y) → step_at line x y ≡ step → (pixel ≡ record { x = x; y = y })

-- a line has exactly one pixel for each step along its major axis, and no others
pub record OnePixelForEachStep : Type 0 where
  pub each : (line : Line) (step : ℕ) → step < steps_of line → HasStep line step
  pub no_other : (line : Line) (x y : ℤ) → IsTrue (on_line line x y) → step_at line x y < steps_of line
