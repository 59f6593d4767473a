-- Where lines cross a row.
use Rattle.std.specs.Prelude.{ℕ, suc, ℤ, ◌-ℤ◌, ◌*ℤ◌, if◌then◌else◌, List, [], ◌∷◌, ◌++◌}
use Rattle.mapping.specs.Floor.{floor_div}
use Rattle.mapping.specs.declared.geometry.Point.{Point}
use Rattle.span_fill.specs.Fill.{crossing_dividend, crossing_divisor, has_row}
use Rattle.span_fill.specs.declared.crossing.Crossing.{Crossing}
use Rattle.span_fill.specs.declared.line.Line.{Line}

-- the greatest integer that isn't above the fraction
abbrev pub quotient : Point → Point → ℕ → ℤ
quotient upper lower y = floor_div (crossing_dividend upper lower y) (crossing_divisor upper lower)

-- where the line with this number crosses row y
abbrev pub crossing_at : ℕ → Point → Point → ℕ → Crossing
crossing_at number upper lower y = record {
  line = number;
  quotient = quotient upper lower y;
  rest = crossing_dividend upper lower y -ℤ quotient upper lower y *ℤ crossing_divisor upper lower;
}

-- the crossing of a line with row y, as a list; empty if the line doesn't cross it
abbrev pub crossings_of_line : ℕ → Line → ℕ → List Crossing
crossings_of_line number line y =
    if has_row line.from line.to y then crossing_at number line.from line.to y ∷ []
    else (if has_row line.to line.from y then crossing_at number line.to line.from y ∷ [] else [])

-- the crossings of lines with row y; the first line has this number
abbrev pub crossings_from : ℕ → List Line → ℕ → List Crossing
crossings_from number [] y = []
crossings_from number (line ∷ lines) y = crossings_of_line number line y ++ crossings_from (suc number) lines y

-- the crossings of all lines with a row, with the lines numbered from 0
abbrev pub crossings_of : List Line → ℕ → List Crossing
crossings_of lines y = crossings_from 0 lines y
