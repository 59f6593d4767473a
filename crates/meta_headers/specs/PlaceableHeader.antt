-- Opening a placeable WMF file: META_PLACEABLE, [MS-WMF] 2.3.2.3, of 22 bytes, and META_HEADER, 2.3.2.2, of 18.
use Rattle.std.specs.Prelude.{ℕ, zero, suc, ◌*◌, ◌-ℤ◌, unsigned_abs, bit_xor, Bool, ◌&&◌, ◌||◌, not, ◌==◌, nat_lt, nat_le, if◌then◌else◌, List, length, None, Result, Ok, Err}
use Rattle.mapping.specs.PageMap.{placeable_map}
use Rattle.mapping.specs.declared.geometry.Point.{Point}
use Rattle.point_views.specs.Numbers.{number_at, i16_at}
use Rattle.draw_ops.specs.NoteCounts.{no_notes}
use Rattle.draw_ops.specs.declared.fault.Fault.{Fault}
use Rattle.draw_ops.specs.declared.fault.Fault.TheVariants.{ShortHeader, BadHeader, NoFrame}
use Rattle.draw_ops.specs.declared.note.Note.TheVariants.{PlaceableChecksum, PlaceableFields, SizeField}
use Rattle.draw_ops.specs.RuleSets.{core_rules}
use Rattle.meta_headers.specs.Headers.{OpenedValue, is_header, reports_other_size, noted_where}
use Rattle.meta_headers.specs.declared.opened.FileFormat.TheVariants.{Placeable}

-- the file begins with META_PLACEABLE's key
abbrev pub is_placeable : List ℕ → Bool
is_placeable file = nat_le 4 (length file) && number_at file 0 4 == 0x9ac6cdd7

-- the corner of its box: left and top
abbrev pub box_corner : List ℕ → Point
box_corner file = record { x = i16_at file 6; y = i16_at file 8 }

-- the size of its box, negative if right or bottom comes first
abbrev pub box_dimensions : List ℕ → Point
box_dimensions file = record { x = i16_at file 10 -ℤ i16_at file 6; y = i16_at file 12 -ℤ i16_at file 8 }

-- the exclusive or of the first words of two bytes
abbrev pub xor_of_words : List ℕ → ℕ → ℕ
xor_of_words file zero = 0
xor_of_words file (suc n) = bit_xor (xor_of_words file n) (number_at file (2 * n) 2)

-- the checksum isn't that of the ten words before it
abbrev pub has_other_checksum : List ℕ → Bool
has_other_checksum file = not (number_at file 20 2 == xor_of_words file 10)

-- the handle or the reserved field isn't 0
abbrev pub has_other_fields : List ℕ → Bool
has_other_fields file = not (number_at file 4 2 == 0) || not (number_at file 16 4 == 0)

-- the notes of both headers
abbrev pub placeable_notes : List ℕ → List ℕ
placeable_notes file =
    noted_where (reports_other_size file 22)
    (noted_where (has_other_fields file) (noted_where (has_other_checksum file) no_notes PlaceableChecksum) PlaceableFields) SizeField

-- an opened placeable file: the frame is as large as the box, and the box is the initial window
abbrev pub opened_placeable : List ℕ → OpenedValue
opened_placeable file = record {
  format = Placeable;
  rules = core_rules;
  frame_width = unsigned_abs (box_dimensions file).x;
  frame_height = unsigned_abs (box_dimensions file).y;
  fine_width = unsigned_abs (box_dimensions file).x;
  fine_height = unsigned_abs (box_dimensions file).y;
  map = placeable_map (box_corner file) (box_dimensions file);
  handles = None;
  notes = placeable_notes file;
}

-- the result of opening a placeable file with valid headers: the width and height of its box must not be 0
abbrev pub boxed_file : List ℕ → Result OpenedValue Fault
boxed_file file =
    if unsigned_abs (box_dimensions file).x == 0 || unsigned_abs (box_dimensions file).y == 0 then Err NoFrame else Ok (opened_placeable file)

-- the result of opening a placeable file: both headers must be complete, the second one must be valid, and the width
-- and height of the box must not be 0
abbrev pub placeable_file : List ℕ → Result OpenedValue Fault
placeable_file file =
    if nat_lt (length file) 40 then Err ShortHeader
    else (if not (is_header file 22) then Err BadHeader else boxed_file file)
