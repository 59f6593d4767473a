-- The text in the header of an EMF file that names the program and the picture ([MS-EMF] 2.2.9).
use Rattle.std.specs.Prelude.{ℕ, ◌+◌, ◌*◌, zero, Bool, ◌&&◌, nat_le, if◌then◌else◌, List, [], ◌∷◌, drop, encode_utf8_all, length, Option, Some, None}
use Rattle.std.specs.Char.Utf16.{has_unpaired_surrogate, utf16_lossy_chars}
use Rattle.point_views.specs.Counts.{counts_in}
use Rattle.point_views.specs.Numbers.{number_at}
use Rattle.point_views.specs.declared.numbers.NumberWidth.TheVariants.{Short}
use Rattle.meta_headers.specs.declared.opened.FileFormat.{FileFormat}
use Rattle.meta_headers.specs.declared.opened.FileFormat.TheVariants.{Emf}
use Rattle.file_info.specs.Paper.{has_emf_header}

-- nDescription, the number of the text's UTF-16 code units, and offDescription, where they begin
abbrev pub unit_count : List ℕ → ℕ
unit_count file = number_at file 60 4

abbrev pub unit_place : List ℕ → ℕ
unit_place file = number_at file 64 4

-- the size of the header record
abbrev pub header_size : List ℕ → ℕ
header_size file = number_at file 4 4

-- the header is complete, and the text lies behind its fields
abbrev pub has_description : List ℕ → Bool
has_description file =
    has_emf_header file && nat_le (header_size file) (length file) && nat_le 88 (unit_place file)
    && nat_le (unit_place file + 2 * unit_count file) (header_size file)

-- the code units of the text
abbrev pub description_units : List ℕ → List ℕ
description_units file = counts_in Short (unit_count file) (drop (unit_place file) file)

-- a code unit before others, unless it is a zero at the end
abbrev pub before_last_zeros : ℕ → List ℕ → List ℕ
before_last_zeros zero [] = []
before_last_zeros unit rest = unit ∷ rest

-- code units without the zeros at their end
abbrev pub without_last_zeros : List ℕ → List ℕ
without_last_zeros [] = []
without_last_zeros (unit ∷ units) = before_last_zeros unit (without_last_zeros units)

-- the text of these code units in UTF-8, if there are any, and no surrogate is unpaired
abbrev pub text_of_units : List ℕ → Option (List ℕ)
text_of_units [] = None
text_of_units units = if has_unpaired_surrogate units then None else Some (encode_utf8_all (utf16_lossy_chars units))

-- the text in the header of an EMF file
abbrev pub emf_description : List ℕ → Option (List ℕ)
emf_description file = if has_description file then text_of_units (without_last_zeros (description_units file)) else None

-- the text in the header of a file of some format
abbrev pub description_in : Option FileFormat → List ℕ → Option (List ℕ)
description_in (Some Emf) file = emf_description file
description_in format file = None
