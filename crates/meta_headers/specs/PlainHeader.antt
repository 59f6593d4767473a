-- Opening a plain WMF file: META_HEADER, [MS-WMF] 2.3.2.2, of 18 bytes.
use Rattle.std.specs.Prelude.{ℕ, ℤ, unsigned_abs, Bool, ◌&&◌, not, nat_lt, nat_le, if◌then◌else◌, List, length, drop, Option, Some, None, Result, Ok, Err}
use Rattle.mapping.specs.PageMap.{plain_map}
use Rattle.draw_ops.specs.NoteCounts.{no_notes}
use Rattle.draw_ops.specs.declared.fault.Fault.{Fault}
use Rattle.draw_ops.specs.declared.fault.Fault.TheVariants.{ShortHeader, BadHeader, NoFrame}
use Rattle.draw_ops.specs.declared.note.Note.TheVariants.{SizeField}
use Rattle.wmf_records.specs.FirstExtent.{first_extent}
use Rattle.draw_ops.specs.RuleSets.{core_rules}
use Rattle.meta_headers.specs.Headers.{OpenedValue, begins_header, has_version, reports_other_size, noted_where}
use Rattle.meta_headers.specs.declared.opened.FileFormat.TheVariants.{Plain}

-- the file begins with META_HEADER's type and size
abbrev pub is_plain : List ℕ → Bool
is_plain file = nat_le 4 (length file) && begins_header file 0

-- an opened plain file: the frame is as large as the first usable extent in its records, which is also the initial
-- window's
abbrev pub opened_plain : List ℕ → ℤ × ℤ → OpenedValue
opened_plain file extent = record {
  format = Plain;
  rules = core_rules;
  frame_width = unsigned_abs extent.0;
  frame_height = unsigned_abs extent.1;
  fine_width = unsigned_abs extent.0;
  fine_height = unsigned_abs extent.1;
  map = plain_map (record { x = extent.0; y = extent.1 });
  handles = None;
  notes = noted_where (reports_other_size file 0) no_notes SizeField;
}

-- without a usable extent, the file's size isn't known
abbrev pub plain_with : List ℕ → Option (ℤ × ℤ) → Result OpenedValue Fault
plain_with file None = Err NoFrame
plain_with file (Some extent) = Ok (opened_plain file extent)

-- the result of opening a plain file: its header must be complete and have one of the versions, and a usable extent
-- must follow
abbrev pub plain_file : List ℕ → Result OpenedValue Fault
plain_file file =
    if nat_lt (length file) 18 then Err ShortHeader
    else (if not (has_version file 0) then Err BadHeader else plain_with file (first_extent (drop 18 file)))
