-- Which pixels a nib covers along lines: a box of its columns and rows around each pixel of a line.
use Rattle.std.specs.Prelude.{◌≡◌, ℕ, zero, suc, ℤ, pos, ◌+ℤ◌, ◌-ℤ◌, ◌≤ℤ◌, ◌<ℤ◌, Bool, true, false, ◌||◌, IsTrue, ◌↔◌, List}
use Rattle.std.specs.List.{All, list_any}
use Rattle.mapping.specs.Nibs.{IsNib, reach_before, reach_after}
use Rattle.mapping.specs.PixelBoxes.{BoxHasPixel}
use Rattle.mapping.specs.declared.geometry.Rect.{Rect}
use Rattle.mapping.specs.declared.nib.Nib.{Nib}
use Rattle.span_fill.specs.LineBoxes.{HasLine}
use Rattle.span_fill.specs.Strokes.{in_stroke, on_line}
use Rattle.span_fill.specs.declared.line.Line.{Line}

-- one of the numbers below n passes the test
abbrev pub any_below : (ℕ → Bool) → ℕ → Bool
any_below test zero = false
any_below test (suc n) = test n || any_below test n

-- A nib covers the pixel in column x of row y along a line: it lies in the nib's box around a pixel of the line.
abbrev pub on_wide_line : Nib → Line → ℤ → ℤ → Bool
on_wide_line nib line x y =
    any_below (λ i. any_below (λ j. on_line line (x +ℤ pos (reach_before nib.x) -ℤ pos i) (y +ℤ pos (reach_before nib.y) -ℤ pos j)) nib.y) nib.x

-- a nib covers the pixel (x, y) along some lines
abbrev pub in_wide_stroke : Nib → List Line → ℕ → ℕ → Bool
in_wide_stroke nib lines x y = list_any (λ line. on_wide_line nib line (pos x) (pos y)) lines

-- the line has a pixel whose box contains (x, y)
pub record IsCovered (nib : Nib) (line : Line) (x y : ℤ) : Type 0 where
  pub u : ℤ
  pub v : ℤ
  pub on : IsTrue (on_line line u v)
  pub left : (u -ℤ pos (reach_before nib.x)) ≤ℤ x
  pub right : x ≤ℤ (u +ℤ pos (reach_after nib.x))
  pub above : (v -ℤ pos (reach_before nib.y)) ≤ℤ y
  pub below : y ≤ℤ (v +ℤ pos (reach_after nib.y))

-- what passes the test is an interval
pub record IsOneSpan (test : ℤ → Bool) : Type 0 where
  pub from : ℤ
  pub to : ℤ
  pub exact : (x : ℤ) → IsTrue (test x) ↔ ((from ≤ℤ x) × (x <ℤ to))

-- the nib of one pixel
abbrev pub one_pixel : Nib
one_pixel = record { x = 1; y = 1 }

-- the box of all that a nib covers as it moves over a box
abbrev pub widened : Nib → Rect → Rect
widened nib box = record {
  l = box.l -ℤ pos (reach_before nib.x);
  t = box.t -ℤ pos (reach_before nib.y);
  r = box.r +ℤ pos (reach_after nib.x);
  b = box.b +ℤ pos (reach_after nib.y);
}

-- a nib's columns, as a nib of one row
abbrev pub row_of : Nib → Nib
row_of nib = record { x = nib.x; y = 1 }

-- in one of the rows that the nib reaches, its columns cover the pixel's column
abbrev pub covers_by_rows : Nib → Line → ℤ → ℤ → Bool
covers_by_rows nib line x y = any_below (λ j. on_wide_line (row_of nib) line x (y +ℤ pos (reach_before nib.y) -ℤ pos j)) nib.y

-- What a nib covers along a line is one span in each row. It is what the nib's columns cover from the rows that the nib
-- reaches. A nib of one pixel covers the line itself. A box that contains the line, widened by the nib, contains all
-- that the nib covers.
pub record WideStrokeLaws : Type 0 where
  pub covers : (nib : Nib) (line : Line) (x y : ℤ) → IsNib nib → IsTrue (on_wide_line nib line x y) ↔ IsCovered nib line x y
  pub row : (nib : Nib) (line : Line) (y : ℤ) → IsNib nib → IsOneSpan (λ x. on_wide_line nib line x y)
  pub rows : (nib : Nib) (line : Line) (x y : ℤ) → IsNib nib → on_wide_line nib line x y ≡ covers_by_rows nib line x y
  pub one : (lines : List Line) (x y : ℕ) → in_wide_stroke one_pixel lines x y ≡ in_stroke lines x y
  pub box :
      (nib : Nib) (box : Rect) (lines : List Line) (x y : ℕ) → All (HasLine box) lines
      → in_wide_stroke nib lines x y ≡ true → BoxHasPixel (widened nib box) x y
