-- What the headers of all formats have in common.
use Rattle.std.specs.Prelude.{ℕ, ◌+◌, ◌*◌, Bool, true, false, Option, ◌&&◌, ◌||◌, not, ◌==◌, nat_lt, List, length, drop}
use Rattle.mapping.specs.Plane.{MapNumbers}
use Rattle.point_views.specs.Numbers.{number_at}
use Rattle.draw_ops.specs.NoteKinds.{noted}
use Rattle.draw_ops.specs.declared.note.Note.{Note}
use Rattle.draw_ops.specs.declared.rules.Rules.{Rules}
use Rattle.meta_headers.specs.declared.opened.FileFormat.{FileFormat}

-- an opened file: its format, the rules under which it is opened, its frame's size in units and in parts of the plane,
-- its initial map, the number of object indexes that it may use, if the format gives one, and the notes of its headers
pub record OpenedValue : Type 0 where
  pub format : FileFormat
  pub rules : Rules
  pub frame_width : ℕ
  pub frame_height : ℕ
  pub fine_width : ℕ
  pub fine_height : ℕ
  pub map : MapNumbers
  pub handles : Option ℕ
  pub notes : List ℕ

-- the longest file, in bytes
unfoldable pub file_limit : ℕ
file_limit = 67108864

-- the file is longer than the limit
abbrev pub is_too_long : List ℕ → Bool
is_too_long file = nat_lt file_limit (length file)

-- META_HEADER begins at an offset, [MS-WMF] 2.3.2.2: a type of 1 or 2, and a size of 9 words
abbrev pub begins_header : List ℕ → ℕ → Bool
begins_header file place = (number_at file place 2 == 1 || number_at file place 2 == 2) && number_at file (place + 2) 2 == 9

-- the version of META_HEADER is one of the two
abbrev pub has_version : List ℕ → ℕ → Bool
has_version file place = number_at file (place + 4) 2 == 0x0100 || number_at file (place + 4) 2 == 0x0300

-- there is a META_HEADER at an offset
abbrev pub is_header : List ℕ → ℕ → Bool
is_header file place = begins_header file place && has_version file place

-- the size of META_HEADER, in words, isn't that of the bytes from there on
abbrev pub reports_other_size : List ℕ → ℕ → Bool
reports_other_size file place = not (2 * number_at file (place + 6) 4 == length (drop place file))

-- the notes, with one more kind if a condition holds
abbrev pub noted_where : Bool → List ℕ → Note → List ℕ
noted_where false notes note = notes
noted_where true notes note = noted notes note
