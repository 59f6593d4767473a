-- The definitions on worked values: which pixels polygons have inside, and where their lines cross a row.
use Rattle.std.proofs.Common.{◌≡◌, ℕ, zero, suc, ◌+◌, pos, negsuc, true, false, if◌then◌else◌, List, [], ◌∷◌, map, refl}
use Rattle.span_fill.specs.Crossings.{crossings_of}
use Rattle.span_fill.specs.Fill.{in_fill}
use Rattle.span_fill.specs.declared.fill_rule.FillRule.{FillRule}
use Rattle.span_fill.specs.declared.fill_rule.FillRule.TheVariants.{EvenOdd, NonZero}
use Rattle.span_fill.specs.declared.line.Line.{Line}

-- a line between points with these coordinates
abbrev line : ℕ → ℕ → ℕ → ℕ → Line
line x0 y0 x1 y1 = record { from = record { x = pos x0; y = pos y0 }; to = record { x = pos x1; y = pos y1 } }

-- how many of the first columns of row y are inside
abbrev inside_of : FillRule → List Line → ℕ → ℕ → ℕ
inside_of rule lines zero y = 0
inside_of rule lines (suc x) y = (if in_fill rule lines x y then 1 else 0) + inside_of rule lines x y

-- the same of twelve columns, row by row
abbrev rows_of : FillRule → List Line → List ℕ → List ℕ
rows_of rule lines rows = map (inside_of rule lines 12) rows

-- a triangle with the corners (0, 0), (4, 0) and (0, 4)
abbrev triangle : List Line
triangle = line 0 0 4 0 ∷ line 4 0 0 4 ∷ line 0 4 0 0 ∷ []

-- it has the pixels on its left edge, and none on its right one
left_edge : map (λ y. in_fill EvenOdd triangle 0 y) (0 ∷ 1 ∷ 2 ∷ 3 ∷ []) ≡ true ∷ true ∷ true ∷ false ∷ []
left_edge = refl

right_edge : in_fill EvenOdd triangle 3 0 ≡ false
right_edge = refl

before_right_edge : in_fill EvenOdd triangle 2 0 ≡ true
before_right_edge = refl

triangle_rows : rows_of EvenOdd triangle (0 ∷ 1 ∷ 2 ∷ 3 ∷ 4 ∷ []) ≡ 3 ∷ 2 ∷ 1 ∷ 0 ∷ 0 ∷ []
triangle_rows = refl

triangle_rows_by_winding : rows_of NonZero triangle (0 ∷ 1 ∷ 2 ∷ 3 ∷ 4 ∷ []) ≡ 3 ∷ 2 ∷ 1 ∷ 0 ∷ 0 ∷ []
triangle_rows_by_winding = refl

-- its lines that cross row 1: the second from right to left, and the third along column 0; the first is horizontal
triangle_crossings : crossings_of triangle 1 ≡ record { line = 1; quotient = pos 2; rest = pos 4 } ∷ record { line = 2; quotient = pos 0; rest = pos 0 } ∷ []
triangle_crossings = refl

-- a crossing to the left of column 0 has a quotient below 0, and a rest that isn't
left_of_all : crossings_of (record { from = record { x = negsuc 0; y = pos 0 }; to = record { x = negsuc 1; y = pos 2 } } ∷ []) 0 ≡ record { line = 0; quotient = negsuc 1; rest = pos 3 } ∷ []
left_of_all = refl

-- a star with five points, whose lines cross each other
abbrev star : List Line
star = line 5 0 8 10 ∷ line 8 10 0 4 ∷ line 0 4 10 4 ∷ line 10 4 2 10 ∷ line 2 10 5 0 ∷ []

-- its middle isn't inside where lines are counted
star_rows : rows_of EvenOdd star (0 ∷ 1 ∷ 2 ∷ 3 ∷ 4 ∷ 5 ∷ 6 ∷ 7 ∷ 8 ∷ 9 ∷ []) ≡ 0 ∷ 0 ∷ 2 ∷ 2 ∷ 6 ∷ 2 ∷ 0 ∷ 4 ∷ 4 ∷ 2 ∷ []
star_rows = refl

-- but is where turns are
star_rows_by_winding : rows_of NonZero star (0 ∷ 1 ∷ 2 ∷ 3 ∷ 4 ∷ 5 ∷ 6 ∷ 7 ∷ 8 ∷ 9 ∷ []) ≡ 0 ∷ 0 ∷ 2 ∷ 2 ∷ 8 ∷ 6 ∷ 4 ∷ 4 ∷ 4 ∷ 2 ∷ []
star_rows_by_winding = refl
