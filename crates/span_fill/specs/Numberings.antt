-- Numbers of pixels, row by row, and how they move along a line.
use Rattle.std.specs.Prelude.{◌≡◌, ℤ, pos, neg_ℤ, ◌+ℤ◌, ◌-ℤ◌, ◌*ℤ◌, Bool, if◌then◌else◌}
use Rattle.span_fill.specs.MajorLines.{pixel_column, pixel_row}
use Rattle.span_fill.specs.declared.fixed_walk.FixedWalk.{FixedWalk}
use Rattle.span_fill.specs.declared.grid.Grid.{Grid}
use Rattle.span_fill.specs.declared.numbering.Numbering.{Numbering}

-- the number of the pixel in column x of row y: rows are `stride` numbers apart, and row `first` begins with 0
abbrev pub number_of : Grid → ℤ → ℤ → ℤ
number_of grid x y = (y -ℤ pos grid.first) *ℤ pos grid.stride +ℤ x

-- by how much the number grows with the coordinate on the major axis, and with that on the minor one
abbrev pub major_weight : Grid → Bool → ℤ
major_weight grid y_major = if y_major then pos grid.stride else pos 1

abbrev pub minor_weight : Grid → Bool → ℤ
minor_weight grid y_major = if y_major then pos 1 else pos grid.stride

-- the number is that of the pixel at the position's coordinate on the major axis and at 0 on the minor one
pub record IsNumbered (grid : Grid) (y_major : Bool) (position : FixedWalk) (numbering : Numbering) : Type 0 where
  pub number : numbering.number ≡ number_of grid (pixel_column y_major position.u (pos 0)) (pixel_row y_major position.u (pos 0))
  pub along : numbering.along ≡ (if position.forwards then major_weight grid y_major else neg_ℤ (major_weight grid y_major))
  pub across : numbering.across ≡ minor_weight grid y_major
