-- What blits read, on worked columns, rows and rectangles.
use Rattle.std.proofs.Common.{◌≡◌, ℕ, ℤ, pos, negsuc, List, [], ◌∷◌, map, true, false, None, Some, refl}
use Rattle.std.specs.Prelude.{unsigned_abs}
use Rattle.mapping.specs.Colours.{black_colour}
use Rattle.mapping.specs.declared.geometry.Colour.{Colour}
use Rattle.mapping.specs.declared.geometry.Point.{Point}
use Rattle.dib_views.specs.Pictures.{Picture}
use Rattle.draw_ops.specs.Blits.{CountedFrom, SourceValue, bottom, top}
use Rattle.raster_ops.specs.Sources.{colour_read, columns_read, first_row, index_read, is_source_inside, is_mirrored, is_readable, scaled_place, source_colour}

-- columns 0 on of a side, each as the column that it reads
abbrev scaled : ℕ → ℕ → List ℕ → List ℕ
scaled count side places = map (scaled_place count side) places

two_to_four : scaled 2 4 (0 ∷ 1 ∷ 2 ∷ 3 ∷ []) ≡ 0 ∷ 0 ∷ 1 ∷ 1 ∷ []
two_to_four = refl

-- (2 * 3 + 1) * 2 / (2 * 7) is 1: the middle of the fourth of seven is where the second of two begins
two_to_seven : scaled 2 7 (0 ∷ 1 ∷ 2 ∷ 3 ∷ 4 ∷ 5 ∷ 6 ∷ []) ≡ 0 ∷ 0 ∷ 0 ∷ 1 ∷ 1 ∷ 1 ∷ 1 ∷ []
two_to_seven = refl

seven_to_three : scaled 7 3 (0 ∷ 1 ∷ 2 ∷ []) ≡ 1 ∷ 3 ∷ 5 ∷ []
seven_to_three = refl

three_to_three : scaled 3 3 (0 ∷ 1 ∷ 2 ∷ []) ≡ 0 ∷ 1 ∷ 2 ∷ []
three_to_three = refl

-- a picture is mirrored where one of the two is negative, and not where both are
straight : is_mirrored (pos 1) (pos 4) (pos 3) ≡ false
straight = refl

mirrored_by_the_box : is_mirrored (pos 4) (pos 1) (pos 3) ≡ true
mirrored_by_the_box = refl

mirrored_by_the_extent : is_mirrored (pos 1) (pos 4) (negsuc 2) ≡ true
mirrored_by_the_extent = refl

mirrored_twice : is_mirrored (pos 4) (pos 1) (negsuc 2) ≡ false
mirrored_twice = refl

-- a picture of three columns and two rows, of which each pixel's red part is 10 * row + column
abbrev red : ℕ → Colour
red r = record { r = r; g = 0; b = 0 }

abbrev picture : Picture
picture = record {
  width = 3;
  height = 2;
  rows = (red 0 ∷ red 1 ∷ red 2 ∷ []) ∷ (red 10 ∷ red 11 ∷ red 12 ∷ []) ∷ [];
}

abbrev point : ℤ → ℤ → Point
point x y = record { x = x; y = y }

abbrev source : CountedFrom → Point → Point → SourceValue
source counted corner extent = record { picture = picture; corner = corner; extent = extent; counted = counted }

abbrev whole : SourceValue
whole = source top (point (pos 0) (pos 0)) (point (pos 3) (pos 2))

-- the columns that columns 5 to 7 read, of a box from (5, 7) to (8, 9), and of one from (8, 7) to (5, 9)
abbrev read_in : SourceValue → Point → Point → List ℕ → List ℕ
read_in s p q places = map (λ n. unsigned_abs (index_read (columns_read s p q) n)) places

columns_straight : read_in whole (point (pos 5) (pos 7)) (point (pos 8) (pos 9)) (5 ∷ 6 ∷ 7 ∷ []) ≡ 0 ∷ 1 ∷ 2 ∷ []
columns_straight = refl

columns_mirrored : read_in whole (point (pos 8) (pos 7)) (point (pos 5) (pos 9)) (5 ∷ 6 ∷ 7 ∷ []) ≡ 2 ∷ 1 ∷ 0 ∷ []
columns_mirrored = refl

-- an extent of -2 from column 3 on is columns 1 and 2, mirrored; in a turned box it isn't
abbrev leftwards : SourceValue
leftwards = source top (point (pos 3) (pos 0)) (point (negsuc 1) (pos 2))

columns_leftwards : read_in leftwards (point (pos 5) (pos 7)) (point (pos 9) (pos 9)) (5 ∷ 6 ∷ 7 ∷ 8 ∷ []) ≡ 2 ∷ 2 ∷ 1 ∷ 1 ∷ []
columns_leftwards = refl

columns_leftwards_mirrored : read_in leftwards (point (pos 9) (pos 7)) (point (pos 5) (pos 9)) (5 ∷ 6 ∷ 7 ∷ 8 ∷ []) ≡ 1 ∷ 1 ∷ 2 ∷ 2 ∷ []
columns_leftwards_mirrored = refl

-- a box that begins before the surface
columns_before : read_in whole (point (negsuc 1) (pos 0)) (point (pos 4) (pos 2)) (0 ∷ 1 ∷ 2 ∷ 3 ∷ []) ≡ 1 ∷ 1 ∷ 2 ∷ 2 ∷ []
columns_before = refl

-- pixels of the box from (5, 7) to (8, 9), straight and turned upside down
first_pixel : colour_read whole (point (pos 5) (pos 7)) (point (pos 8) (pos 9)) 5 7 ≡ red 0
first_pixel = refl

last_pixel : colour_read whole (point (pos 5) (pos 7)) (point (pos 8) (pos 9)) 7 8 ≡ red 12
last_pixel = refl

upside_down : colour_read whole (point (pos 5) (pos 9)) (point (pos 8) (pos 7)) 7 7 ≡ red 12
upside_down = refl

no_bitmap : source_colour None (point (pos 5) (pos 7)) (point (pos 8) (pos 9)) 5 7 ≡ black_colour
no_bitmap = refl

-- rows counted from the bottom: the first of one row is the last from the top, and the picture isn't turned by that
abbrev low_row : SourceValue
low_row = source bottom (point (pos 0) (pos 0)) (point (pos 3) (pos 1))

low_row_is_1 : first_row low_row ≡ pos 1
low_row_is_1 = refl

all_rows_from_0 : first_row (source bottom (point (pos 0) (pos 0)) (point (pos 3) (pos 2))) ≡ pos 0
all_rows_from_0 = refl

high_row_is_0 : first_row (source bottom (point (pos 0) (pos 2)) (point (pos 3) (negsuc 0))) ≡ pos 0
high_row_is_0 = refl

low_row_is_read : colour_read low_row (point (pos 5) (pos 7)) (point (pos 8) (pos 9)) 6 8 ≡ red 11
low_row_is_read = refl

all_rows_straight : colour_read (source bottom (point (pos 0) (pos 0)) (point (pos 3) (pos 2))) (point (pos 5) (pos 7)) (point (pos 8) (pos 9)) 5 7 ≡ red 0
all_rows_straight = refl

-- rectangles that touch each side, and ones that go one past it
whole_is_inside : is_source_inside whole ≡ true
whole_is_inside = refl

touches_right_and_bottom : is_source_inside (source top (point (pos 2) (pos 1)) (point (pos 1) (pos 1))) ≡ true
touches_right_and_bottom = refl

touches_left_and_top : is_source_inside (source top (point (pos 1) (pos 1)) (point (negsuc 0) (negsuc 0))) ≡ true
touches_left_and_top = refl

past_the_right : is_source_inside (source top (point (pos 1) (pos 0)) (point (pos 3) (pos 2))) ≡ false
past_the_right = refl

past_the_bottom : is_source_inside (source top (point (pos 0) (pos 1)) (point (pos 3) (pos 2))) ≡ false
past_the_bottom = refl

past_the_left : is_source_inside (source top (point (negsuc 0) (pos 0)) (point (pos 3) (pos 2))) ≡ false
past_the_left = refl

past_the_top : is_source_inside (source top (point (pos 0) (pos 1)) (point (pos 3) (negsuc 1))) ≡ false
past_the_top = refl

past_the_bottom_from_there : is_source_inside (source bottom (point (pos 0) (negsuc 0)) (point (pos 3) (pos 2))) ≡ false
past_the_bottom_from_there = refl

past_the_top_from_there : is_source_inside (source bottom (point (pos 0) (pos 1)) (point (pos 3) (pos 2))) ≡ false
past_the_top_from_there = refl

no_width : is_source_inside (source top (point (pos 1) (pos 0)) (point (pos 0) (pos 2))) ≡ false
no_width = refl

no_height : is_source_inside (source top (point (pos 0) (pos 1)) (point (pos 3) (pos 0))) ≡ false
no_height = refl

nothing_to_read : is_readable None ≡ false
nothing_to_read = refl

something_to_read : is_readable (Some whole) ≡ true
something_to_read = refl
