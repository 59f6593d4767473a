-- The report about a file, as JSON.
use Rattle.std.specs.Prelude.{ℕ, ℤ, pos, negsuc, List, [], ◌∷◌, Option, Some, None, codes, option_map, string_bytes}
use Rattle.serde_json.specs.Data.{Data, Items, Members, array, boolean, item, member, negative, no_items, no_members, null, number, object, put, string, unsigned}
use Rattle.mapping.specs.declared.geometry.Rect.{Rect}
use Rattle.draw_ops.specs.Fault.{record_kind_of}
use Rattle.draw_ops.specs.FaultTable.{fault_row}
use Rattle.meta_headers.specs.Formats.{format_name}
use Rattle.meta_headers.specs.declared.opened.FileFormat.{FileFormat}
use Rattle.draw_ops.specs.declared.rules.Rules.{Rules}
use Rattle.listing.specs.RecordNames.{record_name}
use Rattle.report_parts.specs.Parts.{notes_data, pair, report_text, text_if, whole, whole_if}
use Rattle.report_parts.specs.Profile.{uses_data, with_allowed, with_profile}
use Rattle.file_info.specs.Info.{is_playing}
use Rattle.file_info.specs.declared.fault_count.FaultCount.{FaultCount}
use Rattle.file_info.specs.declared.info.FileInfo.{FileInfo}
use Rattle.file_info.specs.declared.paper.Axes.{Axes}
use Rattle.file_info.specs.declared.paper.Sizes.{Sizes}
use Rattle.file_info.specs.declared.playing.Playing.{Playing}
use Rattle.file_info.specs.declared.playing.Playing.TheVariants.{Plays, Stops}

-- a number with a sign
abbrev pub signed : ℤ → Data
signed (pos n) = number (unsigned n)
signed (negsuc n) = number (negative (negsuc n))

-- the name of a format, or null if there is none
abbrev pub format_data : Option FileFormat → Data
format_data None = null
format_data (Some format) = string (format_name format)

-- the number of records of a file of some format, or null if it has no format
abbrev pub records_data : Option FileFormat → ℕ → Data
records_data None records = null
records_data (Some format) records = whole records

-- a frame's width and height, or null if they aren't known
abbrev pub frame_data : Option Sizes → Data
frame_data None = null
frame_data (Some sizes) = pair sizes.frame_width sizes.frame_height

-- the numbers of both axes, or null if they aren't known
abbrev pub axes_data : Option Axes → Data
axes_data None = null
axes_data (Some axes) = pair axes.x axes.y

-- left, top, right and bottom of a box
abbrev pub edges_data : Rect → Data
edges_data box = array (item (signed box.l) (item (signed box.t) (item (signed box.r) (item (signed box.b) no_items))))

-- the edges of a box, or null if there is none
abbrev pub box_data : Option Rect → Data
box_data None = null
box_data (Some box) = edges_data box

-- a part of the sizes, if they are known
abbrev pub dots_if : Option Sizes → Option Axes
dots_if None = None
dots_if (Some sizes) = sizes.dots

abbrev pub paper_if : Option Sizes → Option Axes
paper_if None = None
paper_if (Some sizes) = sizes.paper

abbrev pub emf_frame_if : Option Sizes → Option Rect
emf_frame_if None = None
emf_frame_if (Some sizes) = sizes.emf_frame

-- the number of drawings, and of places for objects, of a file that plays
abbrev pub drawings_if : Playing → Option ℕ
drawings_if (Plays drawings objects uses) = Some drawings
drawings_if (Stops r) = None

abbrev pub objects_if : Playing → Option ℕ
objects_if (Plays drawings objects uses) = Some objects
objects_if (Stops r) = None

-- what a file that plays uses of what its rules allow, or null if it doesn't play
abbrev pub uses_if : Playing → Data
uses_if (Plays drawings objects uses) = uses_data uses.held_deletion uses.emf_plus
uses_if (Stops r) = null

-- the first fault of a file that doesn't play: its name, the kind of record that it refers to, and its record
abbrev pub fault_if : Playing → Option (List ℕ)
fault_if (Plays drawings objects uses) = None
fault_if (Stops r) = Some (fault_row r.fault).name

abbrev pub kind_if : Playing → Option ℕ
kind_if (Plays drawings objects uses) = None
kind_if (Stops r) = record_kind_of r.fault

abbrev pub record_if : Playing → Option ℕ
record_if (Plays drawings objects uses) = None
record_if (Stops r) = r.number

-- the standard's name of a kind of record in a file of some format, if it has one
abbrev pub name_if : Option FileFormat → Option ℕ → Option (List ℕ)
name_if (Some format) (Some kind) = record_name format kind
name_if format kind = None

-- a fault in a file of some format, with how often it occurs
abbrev pub counted_data : Option FileFormat → FaultCount → Data
counted_data format counted =
    object (member (codes "count") (whole counted.count)
    (member (codes "fault") (string (fault_row counted.fault).name)
    (member (codes "number") (whole_if (record_kind_of counted.fault))
    (member (codes "record_name") (text_if (name_if format (record_kind_of counted.fault))) no_members))))

-- all faults, each with how often it occurs
abbrev pub counted_items : Option FileFormat → List (ℕ × FaultCount) → Items
counted_items format [] = no_items
counted_items format (entry ∷ entries) = item (counted_data format entry.1) (counted_items format entries)

-- members followed by others
abbrev pub joined : Members → Members → Members
joined no_members others = others
joined (member name value members) others = member name value (joined members others)

-- the members before `faults`
abbrev pub first_members : FileInfo → Members
first_members info =
    with_allowed info.rules (uses_if info.playing)
    (put (codes "description") (text_if (option_map string_bytes info.description))
    (put (codes "dots_per_inch") (axes_data (dots_if info.sizes))
    (put (codes "drawings") (whole_if (drawings_if info.playing))
    (put (codes "emf_frame") (box_data (emf_frame_if info.sizes))
    (put (codes "error") null
    (put (codes "fault") (text_if (fault_if info.playing)) no_members))))))

-- five members more for how the run of a file of some format ends
abbrev pub with_playing : Option FileFormat → Playing → Members → Members
with_playing format playing members =
    put (codes "number") (whole_if (kind_if playing))
    (put (codes "objects") (whole_if (objects_if playing))
    (put (codes "plays") (boolean (is_playing playing))
    (put (codes "record") (whole_if (record_if playing))
    (put (codes "record_name") (text_if (name_if format (kind_if playing))) members))))

-- the members after `faults`
abbrev pub last_members : List ℕ → FileInfo → Members
last_members name info =
    with_profile info.rules
    (put (codes "file") (string name)
    (put (codes "format") (format_data info.format)
    (put (codes "frame") (frame_data info.sizes)
    (put (codes "notes") (notes_data info.totals.notes.counts)
    (with_playing info.format info.playing
    (put (codes "records") (records_data info.format info.totals.records)
    (put (codes "size") (axes_data (paper_if info.sizes)) no_members)))))))

-- the report about the file with this name
abbrev pub info_data : List ℕ → FileInfo → Data
info_data name info =
    object (joined (first_members info) (member (codes "faults") (array (counted_items info.format info.totals.faults)) (last_members name info)))

-- the members, and those after `file`, all of them null
abbrev pub with_last_unknown : Members → Members
with_last_unknown members =
    put (codes "format") null
    (put (codes "frame") null
    (put (codes "notes") null
    (put (codes "number") null
    (put (codes "objects") null
    (put (codes "plays") null
    (put (codes "record") null
    (put (codes "record_name") null
    (put (codes "records") null
    (put (codes "size") null members)))))))))

-- The report about a file that wasn't read, with the same names.
abbrev pub unread_data : Rules → List ℕ → List ℕ → Data
unread_data rules name error =
    object (with_allowed rules null
    (with_profile rules
    (put (codes "description") null
    (put (codes "dots_per_inch") null
    (put (codes "drawings") null
    (put (codes "emf_frame") null
    (put (codes "error") (string error)
    (put (codes "fault") null
    (put (codes "faults") null
    (put (codes "file") (string name) (with_last_unknown no_members)))))))))))

-- The line of a file: its report, and a line feed.
abbrev pub info_line : List ℕ → FileInfo → List ℕ
info_line name info = report_text (info_data name info)
