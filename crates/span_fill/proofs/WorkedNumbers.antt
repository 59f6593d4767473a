-- The definition of a pixel's number on worked numbers.
use Rattle.std.proofs.Common.{◌≡◌, pos, negsuc, arith, refl}
use Rattle.span_fill.specs.Numberings.{number_of}
use Rattle.span_fill.specs.declared.grid.Grid.{Grid}

-- rows are 10 numbers apart, and row 3 is the first
abbrev rows_of_ten : Grid
rows_of_ten = record { stride = 10; first = 3; narrow = omega arith; low = omega arith }

first_pixel : number_of rows_of_ten (pos 0) (pos 3) ≡ pos 0
first_pixel = refl

-- column 4 of the third of these rows
third_row : number_of rows_of_ten (pos 4) (pos 5) ≡ pos 24
third_row = refl

-- the row above the first
row_above : number_of rows_of_ten (pos 4) (pos 2) ≡ negsuc 5
row_above = refl
