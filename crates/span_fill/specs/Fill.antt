-- Which pixels are inside polygons, for each pixel separately, over all lines of all polygons, each closed.
use Rattle.std.specs.Prelude.{ℕ, ◌+◌, ◌*◌, ◌%◌, ℤ, pos, ◌+ℤ◌, ◌-ℤ◌, ◌*ℤ◌, Bool, ◌&&◌, ◌==◌, not, if◌then◌else◌, int_le, int_lt, List, [], ◌∷◌}
use Rattle.mapping.specs.declared.geometry.Point.{Point}
use Rattle.span_fill.specs.declared.fill_rule.FillRule.{FillRule}
use Rattle.span_fill.specs.declared.fill_rule.FillRule.TheVariants.{EvenOdd, NonZero}
use Rattle.span_fill.specs.declared.line.Line.{Line}

-- the distance of a line's lower end to the right of its upper end
abbrev pub across : Point → Point → ℤ
across upper lower = lower.x -ℤ upper.x

-- the distance of a line's lower end below its upper end
abbrev pub down : Point → Point → ℤ
down upper lower = lower.y -ℤ upper.y

-- The line crosses the centre of row y at this number divided by `crossing_divisor`, in columns from the left edge of
-- column 0.
abbrev pub crossing_dividend : Point → Point → ℕ → ℤ
crossing_dividend upper lower y =
    pos 2 *ℤ down upper lower *ℤ upper.x +ℤ (pos (2 * y + 1) -ℤ pos 2 *ℤ upper.y) *ℤ across upper lower

-- twice the line's height
abbrev pub crossing_divisor : Point → Point → ℤ
crossing_divisor upper lower = pos 2 *ℤ down upper lower

-- the centre of row y lies between the line's ends, including the upper one
abbrev pub has_row : Point → Point → ℕ → Bool
has_row upper lower y = int_le upper.y (pos y) && int_lt (pos y) lower.y

-- the line crosses the centre of row y, at or to the left of the centre of column x
abbrev pub is_crossed : Point → Point → ℕ → ℕ → Bool
is_crossed upper lower x y =
    has_row upper lower y && int_le (crossing_dividend upper lower y) (pos (2 * x + 1) *ℤ down upper lower)

-- how many lines that run downwards cross to the left of the pixel (x, y)
abbrev pub crossed_downwards : List Line → ℕ → ℕ → ℕ
crossed_downwards [] x y = 0
crossed_downwards (line ∷ lines) x y = (if is_crossed line.from line.to x y then 1 else 0) + crossed_downwards lines x y

-- how many lines that run upwards cross to the left of the pixel (x, y)
abbrev pub crossed_upwards : List Line → ℕ → ℕ → ℕ
crossed_upwards [] x y = 0
crossed_upwards (line ∷ lines) x y = (if is_crossed line.to line.from x y then 1 else 0) + crossed_upwards lines x y

-- a pixel with these numbers of lines to its left is inside ([MS-WMF] 2.1.1.25)
abbrev pub is_inside : FillRule → ℕ → ℕ → Bool
is_inside EvenOdd downwards upwards = (downwards + upwards) % 2 == 1
is_inside NonZero downwards upwards = not (downwards == upwards)

-- the pixel (x, y) is inside
abbrev pub in_fill : FillRule → List Line → ℕ → ℕ → Bool
in_fill rule lines x y = is_inside rule (crossed_downwards lines x y) (crossed_upwards lines x y)
