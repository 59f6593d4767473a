-- What reports in JSON have in common.
use Rattle.std.specs.Prelude.{ℕ, ◌==◌, if◌then◌else◌, List, [], ◌∷◌, ◌++◌, Option, Some, None, codes}
use Rattle.serde_json.specs.Data.{Data, Members, array, item, no_items, no_members, null, number, object, put, string, unsigned}
use Rattle.serde_json.specs.Written.{compact_text}
use Rattle.draw_ops.specs.NoteCounts.{note_count}
use Rattle.draw_ops.specs.NoteTable.{note_row_of}
use Rattle.draw_ops.specs.declared.note.Note.{Note}
use Rattle.draw_ops.specs.declared.note.Note.TheVariants.{AfterEnd, DashedPen, EmfPlus, Isotropic, PlaceableChecksum, PlaceableFields, SizeField, Skipped, WidePen}

-- a number
abbrev pub whole : ℕ → Data
whole n = number (unsigned n)

-- a number, or null if there is none
abbrev pub whole_if : Option ℕ → Data
whole_if None = null
whole_if (Some n) = whole n

-- a text, or null if there is none
abbrev pub text_if : Option (List ℕ) → Data
text_if None = null
text_if (Some text) = string text

-- a list of two numbers, such as a width and a height
abbrev pub pair : ℕ → ℕ → Data
pair first second = array (item (whole first) (item (whole second) no_items))

-- the members, with the count of a kind under its name if that kind occurred
abbrev pub with_kind : Note → List ℕ → Members → Members
with_kind kind counts others =
    if note_count counts kind == 0 then others else put (note_row_of kind).name (whole (note_count counts kind)) others

-- the counts of the kinds that occurred, under their names
abbrev pub noted_kinds : List Note → List ℕ → Members
noted_kinds [] counts = no_members
noted_kinds (kind ∷ kinds) counts = with_kind kind counts (noted_kinds kinds counts)

-- all kinds of notes
abbrev pub all_kinds : List Note
all_kinds =
    PlaceableChecksum ∷ PlaceableFields ∷ SizeField ∷ AfterEnd ∷ DashedPen ∷ WidePen ∷ Isotropic ∷ EmfPlus ∷ Skipped ∷ []

-- the kinds of notes that occurred, each with its count
abbrev pub notes_data : List ℕ → Data
notes_data counts = object (noted_kinds all_kinds counts)

-- the text of a report: compact JSON and a line feed
abbrev pub report_text : Data → List ℕ
report_text report = compact_text report ++ codes "\n"
