-- Worked bitmaps that are refused, and those that just are not.
use Rattle.std.proofs.Common.{◌≡◌, ℕ, true, List, [], ◌∷◌, ◌++◌, replicate, take, Err, refl}
use Rattle.std.specs.Prelude.{is_ok}
use Rattle.dib_views.specs.Dibs.{packed_dib, parts_dib}
use Rattle.dib_views.specs.declared.fault.DibFault.TheVariants.{BadDib, CompressedDib, ShortDib}

-- a header by its size, its width, its height, the bits of a pixel, the compression and ClrUsed, all but the bits in four bytes
abbrev header : List ℕ → List ℕ → List ℕ → ℕ → List ℕ → List ℕ → List ℕ
header size width height bits compression used = size ++ width ++ height ++ (1 ∷ 0 ∷ bits ∷ 0 ∷ []) ++ compression ++ replicate 12 0 ++ used ++ replicate 4 0

-- a number below 256 in four bytes
abbrev small : ℕ → List ℕ
small number = number ∷ 0 ∷ 0 ∷ 0 ∷ []

-- other numbers in four bytes
abbrev minus_1 : List ℕ
minus_1 = 255 ∷ 255 ∷ 255 ∷ 255 ∷ []

abbrev least : List ℕ
least = 0 ∷ 0 ∷ 0 ∷ 128 ∷ []

abbrev most : List ℕ
most = 255 ∷ 255 ∷ 255 ∷ 127 ∷ []

abbrev longest_side : List ℕ
longest_side = 0 ∷ 128 ∷ 0 ∷ 0 ∷ []

abbrev too_long_side : List ℕ
too_long_side = 1 ∷ 128 ∷ 0 ∷ 0 ∷ []

abbrev too_long_side_down : List ℕ
too_long_side_down = 255 ∷ 127 ∷ 255 ∷ 255 ∷ []

-- a header of 40 bytes that isn't compressed
abbrev plain : List ℕ → List ℕ → ℕ → List ℕ → List ℕ
plain width height bits used = header (small 40) width height bits (small 0) used

-- 33 by 2 pixels of 1 bit, with its two entries
abbrev wide_bits : List ℕ
wide_bits = plain (small 33) (small 2) 1 (small 2) ++ replicate 8 0

rows_of_16_bytes : is_ok (packed_dib (wide_bits ++ replicate 16 0)) ≡ true
rows_of_16_bytes = refl

rows_of_15_bytes : packed_dib (wide_bits ++ replicate 15 0) ≡ Err ShortDib
rows_of_15_bytes = refl

parts_of_16_bytes : is_ok (parts_dib wide_bits (replicate 16 0)) ≡ true
parts_of_16_bytes = refl

parts_of_15_bytes : parts_dib wide_bits (replicate 15 0) ≡ Err ShortDib
parts_of_15_bytes = refl

-- the table has to be with the header
table_is_short : parts_dib (take 47 wide_bits) (replicate 99 0) ≡ Err ShortDib
table_is_short = refl

skipped_table_is_short : parts_dib (plain (small 1) (small 1) 24 (small 1) ++ replicate 3 0) (replicate 4 0) ≡ Err ShortDib
skipped_table_is_short = refl

huge_skipped_table : parts_dib (plain (small 1) (small 1) 32 minus_1) (replicate 4 0) ≡ Err ShortDib
huge_skipped_table = refl

-- the size, as soon as it is there
no_bytes : packed_dib [] ≡ Err ShortDib
no_bytes = refl

three_bytes : packed_dib (12 ∷ 0 ∷ 0 ∷ []) ≡ Err ShortDib
three_bytes = refl

size_of_12 : packed_dib (small 12) ≡ Err BadDib
size_of_12 = refl

size_of_40 : packed_dib (small 40) ≡ Err ShortDib
size_of_40 = refl

-- a header is as long as it says
abbrev longer : ℕ → List ℕ
longer size = header (small size) (small 1) (small 1) 24 (small 0) (small 0)

header_of_108_in_40 : packed_dib (longer 108) ≡ Err ShortDib
header_of_108_in_40 = refl

header_of_108 : is_ok (packed_dib (longer 108 ++ replicate 72 0)) ≡ true
header_of_108 = refl

header_of_124 : is_ok (packed_dib (longer 124 ++ replicate 88 0)) ≡ true
header_of_124 = refl

header_of_39 : packed_dib (take 39 (header (small 40) (small 1) (small 1) 24 (small 1) (small 0))) ≡ Err ShortDib
header_of_39 = refl

-- compression comes before what else is wrong
compressed : packed_dib (header (small 40) (small 1) (small 1) 8 (small 1) (small 0)) ≡ Err CompressedDib
compressed = refl

compressed_and_bad : packed_dib (header (small 40) (small 0) (small 0) 2 (small 3) minus_1) ≡ Err CompressedDib
compressed_and_bad = refl

-- the bits, the sides and the table come before the bytes
two_bits : packed_dib (plain (small 1) (small 1) 2 (small 0)) ≡ Err BadDib
two_bits = refl

no_width : packed_dib (plain (small 0) (small 1) 24 (small 0)) ≡ Err BadDib
no_width = refl

no_height : packed_dib (plain (small 1) (small 0) 24 (small 0)) ≡ Err BadDib
no_height = refl

negative_width : packed_dib (plain minus_1 (small 1) 24 (small 0)) ≡ Err BadDib
negative_width = refl

greatest_width : packed_dib (plain most (small 1) 24 (small 0)) ≡ Err BadDib
greatest_width = refl

least_height : packed_dib (plain (small 1) least 24 (small 0)) ≡ Err BadDib
least_height = refl

too_wide : packed_dib (plain too_long_side (small 1) 1 (small 0)) ≡ Err BadDib
too_wide = refl

too_high : packed_dib (plain (small 1) too_long_side 1 (small 0)) ≡ Err BadDib
too_high = refl

too_high_down : packed_dib (plain (small 1) too_long_side_down 1 (small 0)) ≡ Err BadDib
too_high_down = refl

longest_dimensions : packed_dib (plain longest_side longest_side 1 (small 0)) ≡ Err ShortDib
longest_dimensions = refl

three_entries_of_1_bit : packed_dib (plain (small 1) (small 1) 1 (small 3)) ≡ Err BadDib
three_entries_of_1_bit = refl

seventeen_entries_of_4_bits : packed_dib (plain (small 1) (small 1) 4 (small 17)) ≡ Err BadDib
seventeen_entries_of_4_bits = refl

too_many_entries_of_8_bits : packed_dib (plain (small 1) (small 1) 8 (1 ∷ 1 ∷ 0 ∷ 0 ∷ [])) ≡ Err BadDib
too_many_entries_of_8_bits = refl

all_entries_of_8_bits : packed_dib (plain (small 1) (small 1) 8 (0 ∷ 1 ∷ 0 ∷ 0 ∷ [])) ≡ Err ShortDib
all_entries_of_8_bits = refl
