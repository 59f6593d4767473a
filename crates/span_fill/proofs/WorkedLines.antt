-- The definition of a line's pixels on worked numbers.
use Rattle.std.proofs.Common.{◌≡◌, ℕ, pos, Bool, true, false, List, [], ◌∷◌, map, refl}
use Rattle.span_fill.specs.Strokes.{on_line, steps_of}
use Rattle.span_fill.specs.declared.line.Line.{Line}

-- the line from (x0, y0) to (x1, y1)
abbrev line_from : ℕ → ℕ → ℕ → ℕ → Line
line_from x0 y0 x1 y1 = record { from = record { x = pos x0; y = pos y0 }; to = record { x = pos x1; y = pos y1 } }

-- which of the first five columns the line has in a row
abbrev row_of : Line → ℕ → List Bool
row_of line y = map (λ x. on_line line (pos x) (pos y)) (0 ∷ 1 ∷ 2 ∷ 3 ∷ 4 ∷ [])

-- along a row: the last point is left out
along_row : row_of (line_from 0 0 4 0) 0 ≡ true ∷ true ∷ true ∷ true ∷ false ∷ []
along_row = refl

-- half as far down as to the right: of two places as near it has the lower one
flat_top : row_of (line_from 0 0 4 2) 0 ≡ true ∷ false ∷ false ∷ false ∷ false ∷ []
flat_top = refl

flat_middle : row_of (line_from 0 0 4 2) 1 ≡ false ∷ true ∷ true ∷ false ∷ false ∷ []
flat_middle = refl

flat_bottom : row_of (line_from 0 0 4 2) 2 ≡ false ∷ false ∷ false ∷ true ∷ false ∷ []
flat_bottom = refl

-- the same line backwards has other pixels
back_top : row_of (line_from 4 2 0 0) 0 ≡ false ∷ false ∷ false ∷ false ∷ false ∷ []
back_top = refl

back_middle : row_of (line_from 4 2 0 0) 1 ≡ false ∷ true ∷ true ∷ false ∷ false ∷ []
back_middle = refl

back_bottom : row_of (line_from 4 2 0 0) 2 ≡ false ∷ false ∷ false ∷ true ∷ true ∷ []
back_bottom = refl

-- a steep line has a pixel in each row, and none in its last point's; of two columns as near it has the right one
y_major_first : row_of (line_from 0 0 2 4) 0 ≡ true ∷ false ∷ false ∷ false ∷ false ∷ []
y_major_first = refl

y_major_second : row_of (line_from 0 0 2 4) 1 ≡ false ∷ true ∷ false ∷ false ∷ false ∷ []
y_major_second = refl

y_major_third : row_of (line_from 0 0 2 4) 2 ≡ false ∷ true ∷ false ∷ false ∷ false ∷ []
y_major_third = refl

y_major_fourth : row_of (line_from 0 0 2 4) 3 ≡ false ∷ false ∷ true ∷ false ∷ false ∷ []
y_major_fourth = refl

y_major_last : row_of (line_from 0 0 2 4) 4 ≡ false ∷ false ∷ false ∷ false ∷ false ∷ []
y_major_last = refl

-- a line to where it begins has no pixel
point : row_of (line_from 0 0 0 0) 0 ≡ false ∷ false ∷ false ∷ false ∷ false ∷ []
point = refl

point_steps : steps_of (line_from 0 0 0 0) ≡ 0
point_steps = refl

-- a line as far down as to the right
diagonal_third : row_of (line_from 0 0 3 3) 2 ≡ false ∷ false ∷ true ∷ false ∷ false ∷ []
diagonal_third = refl

diagonal_last : row_of (line_from 0 0 3 3) 3 ≡ false ∷ false ∷ false ∷ false ∷ false ∷ []
diagonal_last = refl
