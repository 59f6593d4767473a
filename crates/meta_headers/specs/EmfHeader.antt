-- Opening an EMF file: EMR_HEADER, [MS-EMF] 2.3.4.2, which is also its first record.
use Rattle.std.specs.Prelude.{ℕ, zero, suc, ℤ, pos, negsuc, ◌+ℤ◌, ◌-ℤ◌, ◌%◌, Bool, ◌&&◌, not, ◌==◌, nat_lt, nat_le, if◌then◌else◌, List, length, Some, Result, Ok, Err}
use Rattle.mapping.specs.Limits.{is_frame_side}
use Rattle.mapping.specs.PageMap.{unscaled_map}
use Rattle.point_views.specs.Numbers.{number_at, i32_at}
use Rattle.draw_ops.specs.Fields.{xy_at}
use Rattle.draw_ops.specs.NoteCounts.{no_notes}
use Rattle.draw_ops.specs.declared.fault.Fault.{Fault}
use Rattle.draw_ops.specs.declared.fault.Fault.TheVariants.{ShortHeader, BadHeader, NoFrame}
use Rattle.draw_ops.specs.declared.note.Note.TheVariants.{SizeField}
use Rattle.draw_ops.specs.RuleSets.{core_rules}
use Rattle.meta_headers.specs.Headers.{OpenedValue, noted_where}
use Rattle.meta_headers.specs.declared.opened.FileFormat.TheVariants.{Emf}

-- the file begins with EMR_HEADER's type and has its signature
abbrev pub is_emf : List ℕ → Bool
is_emf file = nat_le 44 (length file) && number_at file 0 4 == 1 && number_at file 40 4 == 0x464d4520

-- a number, or 1 if it is less than 1
abbrev pub at_least_1 : ℤ → ℕ
at_least_1 (pos zero) = 1
at_least_1 (pos (suc n)) = suc n
at_least_1 (negsuc n) = 1

-- the width or height of the frame between two edges of the bounds, both inclusive
abbrev pub bounds_side : ℤ → ℤ → ℕ
bounds_side first last = at_least_1 (last -ℤ first +ℤ pos 1)

-- the frame's width, from the left to the right of the bounds, which are stored as left, top, right and bottom
abbrev pub bounds_width : List ℕ → ℕ
bounds_width file = bounds_side (i32_at file 8) (i32_at file 16)

-- the frame's height, from the top to the bottom of the bounds
abbrev pub bounds_height : List ℕ → ℕ
bounds_height file = bounds_side (i32_at file 12) (i32_at file 20)

-- the size in bytes isn't the file's
abbrev pub has_other_bytes : List ℕ → Bool
has_other_bytes file = not (number_at file 48 4 == length file)

-- an opened EMF file: the frame is that of the bounds, whose left and top are the origin of the plane
abbrev pub opened_emf : List ℕ → OpenedValue
opened_emf file = record {
  format = Emf;
  rules = core_rules;
  frame_width = bounds_width file;
  frame_height = bounds_height file;
  fine_width = bounds_width file;
  fine_height = bounds_height file;
  map = unscaled_map (xy_at file 8);
  handles = Some (number_at file 56 2);
  notes = noted_where (has_other_bytes file) no_notes SizeField;
}

-- a header may have this size
abbrev pub is_emf_header_size : ℕ → Bool
is_emf_header_size size = nat_le 88 size && size % 4 == 0

-- the result of opening an EMF file: its fields must be complete, its header must have a valid size and be complete,
-- and its frame must not be too large
abbrev pub emf_file : List ℕ → Result OpenedValue Fault
emf_file file =
    if nat_lt (length file) 88 then Err ShortHeader
    else (if not (is_emf_header_size (number_at file 4 4)) then Err BadHeader
    else (if nat_lt (length file) (number_at file 4 4) then Err ShortHeader
    else (if not (is_frame_side (bounds_width file) && is_frame_side (bounds_height file)) then Err NoFrame
    else Ok (opened_emf file))))
