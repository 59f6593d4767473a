-- Worked bitmaps, byte by byte.
use Rattle.std.proofs.Common.{◌≡◌, ℕ, List, [], ◌∷◌, ◌++◌, replicate, Ok, refl}
use Rattle.std.specs.Prelude.{Result}
use Rattle.mapping.specs.Colours.{black_colour, white_colour}
use Rattle.mapping.specs.declared.geometry.Colour.{Colour}
use Rattle.dib_views.specs.Dibs.{packed_dib, parts_dib}
use Rattle.dib_views.specs.Pictures.{Dib}
use Rattle.dib_views.specs.Pixels.{row_size, wide_part}
use Rattle.dib_views.specs.declared.fault.DibFault.{DibFault}
use Rattle.dib_views.specs.declared.shape.BitCount.TheVariants.{One, Four, Eight, Sixteen, TwentyFour, ThirtyTwo}
use Rattle.dib_views.specs.declared.shape.RowOrder.{RowOrder}
use Rattle.dib_views.specs.declared.shape.RowOrder.TheVariants.{BottomUp, TopDown}

abbrev red : Colour
red = record { r = 255; g = 0; b = 0 }

abbrev green : Colour
green = record { r = 0; g = 255; b = 0 }

abbrev blue : Colour
blue = record { r = 0; g = 0; b = 255 }

-- a number below 256 in four bytes
abbrev four_bytes : ℕ → List ℕ
four_bytes number = number ∷ 0 ∷ 0 ∷ 0 ∷ []

-- a height of two rows, the bottom row first, and the top row first
abbrev two_up : List ℕ
two_up = four_bytes 2

abbrev two_down : List ℕ
two_down = 254 ∷ 255 ∷ 255 ∷ 255 ∷ []

-- a header of 40 bytes by its width, its height in four bytes, the bits of a pixel and ClrUsed
abbrev pub header : ℕ → List ℕ → ℕ → ℕ → List ℕ
header width height bits used = four_bytes 40 ++ four_bytes width ++ height ++ (1 ∷ 0 ∷ bits ∷ 0 ∷ replicate 16 0) ++ four_bytes used ++ four_bytes 0

-- entries of a colour table
abbrev black_entry : List ℕ
black_entry = 0 ∷ 0 ∷ 0 ∷ 0 ∷ []

abbrev red_entry : List ℕ
red_entry = 0 ∷ 0 ∷ 255 ∷ 0 ∷ []

abbrev green_entry : List ℕ
green_entry = 0 ∷ 255 ∷ 0 ∷ 0 ∷ []

abbrev blue_entry : List ℕ
blue_entry = 255 ∷ 0 ∷ 0 ∷ 0 ∷ []

abbrev white_entry : List ℕ
white_entry = 255 ∷ 255 ∷ 255 ∷ 0 ∷ []

abbrev four_entries : List ℕ
four_entries = red_entry ++ green_entry ++ blue_entry ++ white_entry

-- a picture of two by two pixels
abbrev two_by_two : Colour → Colour → Colour → Colour → RowOrder → Result Dib DibFault
two_by_two a b c d order = Ok (record { picture = record { width = 2; height = 2; rows = (a ∷ b ∷ []) ∷ (c ∷ d ∷ []) ∷ [] }; order = order })

-- red and green over blue and white
abbrev four_colours : RowOrder → Result Dib DibFault
four_colours order = two_by_two red green blue white_colour order

-- two rows behind a header and a table that say the same of both orders
abbrev stored_up : ℕ → ℕ → List ℕ → List ℕ → List ℕ → List ℕ
stored_up bits used table top bottom = header 2 two_up bits used ++ table ++ bottom ++ top

abbrev stored_down : ℕ → ℕ → List ℕ → List ℕ → List ℕ → List ℕ
stored_down bits used table top bottom = header 2 two_down bits used ++ table ++ top ++ bottom

-- blue and white over red and green, in 24 bits
abbrev quad_header : List ℕ
quad_header = header 2 two_up 24 0

abbrev quad_rows : List ℕ
quad_rows = 0 ∷ 0 ∷ 255 ∷ 0 ∷ 255 ∷ 0 ∷ 0 ∷ 0 ∷ 255 ∷ 0 ∷ 0 ∷ 255 ∷ 255 ∷ 255 ∷ 0 ∷ 0 ∷ []

quad_packed : packed_dib (quad_header ++ quad_rows) ≡ two_by_two blue white_colour red green BottomUp
quad_packed = refl

quad_in_parts : parts_dib quad_header quad_rows ≡ two_by_two blue white_colour red green BottomUp
quad_in_parts = refl

quad_before_other_bytes : packed_dib (quad_header ++ quad_rows ++ 7 ∷ []) ≡ two_by_two blue white_colour red green BottomUp
quad_before_other_bytes = refl

-- the four colours in every depth that has them, and in both orders
abbrev top_4 : List ℕ
top_4 = 1 ∷ 0 ∷ 0 ∷ 0 ∷ []

abbrev bottom_4 : List ℕ
bottom_4 = 35 ∷ 0 ∷ 0 ∷ 0 ∷ []

up_4 : packed_dib (stored_up 4 4 four_entries top_4 bottom_4) ≡ four_colours BottomUp
up_4 = refl

down_4 : packed_dib (stored_down 4 4 four_entries top_4 bottom_4) ≡ four_colours TopDown
down_4 = refl

abbrev top_8 : List ℕ
top_8 = 0 ∷ 1 ∷ 0 ∷ 0 ∷ []

abbrev bottom_8 : List ℕ
bottom_8 = 2 ∷ 3 ∷ 0 ∷ 0 ∷ []

up_8 : packed_dib (stored_up 8 4 four_entries top_8 bottom_8) ≡ four_colours BottomUp
up_8 = refl

down_8 : packed_dib (stored_down 8 4 four_entries top_8 bottom_8) ≡ four_colours TopDown
down_8 = refl

abbrev top_16 : List ℕ
top_16 = 0 ∷ 124 ∷ 224 ∷ 3 ∷ []

abbrev bottom_16 : List ℕ
bottom_16 = 31 ∷ 0 ∷ 255 ∷ 127 ∷ []

up_16 : packed_dib (stored_up 16 0 [] top_16 bottom_16) ≡ four_colours BottomUp
up_16 = refl

down_16 : packed_dib (stored_down 16 0 [] top_16 bottom_16) ≡ four_colours TopDown
down_16 = refl

abbrev top_24 : List ℕ
top_24 = 0 ∷ 0 ∷ 255 ∷ 0 ∷ 255 ∷ 0 ∷ 0 ∷ 0 ∷ []

abbrev bottom_24 : List ℕ
bottom_24 = 255 ∷ 0 ∷ 0 ∷ 255 ∷ 255 ∷ 255 ∷ 0 ∷ 0 ∷ []

up_24 : packed_dib (stored_up 24 0 [] top_24 bottom_24) ≡ four_colours BottomUp
up_24 = refl

down_24 : packed_dib (stored_down 24 0 [] top_24 bottom_24) ≡ four_colours TopDown
down_24 = refl

up_32 : packed_dib (stored_up 32 0 [] (red_entry ++ green_entry) (blue_entry ++ white_entry)) ≡ four_colours BottomUp
up_32 = refl

down_32 : packed_dib (stored_down 32 0 [] (red_entry ++ green_entry) (blue_entry ++ white_entry)) ≡ four_colours TopDown
down_32 = refl

-- two colours in a depth of 1 bit: red and white over white and red
abbrev top_1 : List ℕ
top_1 = 64 ∷ 0 ∷ 0 ∷ 0 ∷ []

abbrev bottom_1 : List ℕ
bottom_1 = 128 ∷ 0 ∷ 0 ∷ 0 ∷ []

up_1 : packed_dib (stored_up 1 2 (red_entry ++ white_entry) top_1 bottom_1) ≡ two_by_two red white_colour white_colour red BottomUp
up_1 = refl

down_1 : packed_dib (stored_down 1 2 (red_entry ++ white_entry) top_1 bottom_1) ≡ two_by_two red white_colour white_colour red TopDown
down_1 = refl

-- ClrUsed 0 means a whole table
whole_table : packed_dib (stored_up 1 0 (red_entry ++ white_entry) top_1 bottom_1) ≡ two_by_two red white_colour white_colour red BottomUp
whole_table = refl

-- an index past the table is black
index_past_one_entry : packed_dib (stored_up 1 1 white_entry top_1 bottom_1) ≡ two_by_two white_colour black_colour black_colour white_colour BottomUp
index_past_one_entry = refl

index_past_two_entries : packed_dib (stored_up 4 2 (red_entry ++ green_entry) top_4 bottom_4) ≡ two_by_two red green black_colour black_colour BottomUp
index_past_two_entries = refl

-- a table that no pixel names is skipped
table_is_skipped : packed_dib (stored_up 24 2 (red_entry ++ green_entry) top_24 bottom_24) ≡ four_colours BottomUp
table_is_skipped = refl

-- parts of five bits
part_0 : wide_part 0 ≡ 0
part_0 = refl

part_1 : wide_part 1 ≡ 8
part_1 = refl

part_15 : wide_part 15 ≡ 123
part_15 = refl

part_16 : wide_part 16 ≡ 132
part_16 = refl

part_31 : wide_part 31 ≡ 255
part_31 = refl

-- the bytes of rows
row_of_33_bits : row_size One 33 ≡ 8
row_of_33_bits = refl

row_of_32_bits : row_size One 32 ≡ 4
row_of_32_bits = refl

row_of_9_times_4 : row_size Four 9 ≡ 8
row_of_9_times_4 = refl

row_of_5_bytes : row_size Eight 5 ≡ 8
row_of_5_bytes = refl

row_of_3_times_16 : row_size Sixteen 3 ≡ 8
row_of_3_times_16 = refl

row_of_3_times_24 : row_size TwentyFour 3 ≡ 12
row_of_3_times_24 = refl

row_of_3_times_32 : row_size ThirtyTwo 3 ≡ 12
row_of_3_times_32 = refl
