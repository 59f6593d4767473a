-- The table of notes: the index and the name of each kind.
use Rattle.std.specs.Prelude.{ℕ, List, codes}
use Rattle.draw_ops.specs.declared.note.Note.{Note}
use Rattle.draw_ops.specs.declared.note.Note.TheVariants.{PlaceableChecksum, PlaceableFields, SizeField, AfterEnd, DashedPen, WidePen, Isotropic, EmfPlus, Skipped}

-- the index of a kind's count among the counts, and the kind's name
pub record NoteRow : Type 0 where
  pub index : ℕ
  pub name : List ℕ

abbrev note_row : ℕ → List ℕ → NoteRow
note_row index name = record { index = index; name = name }

-- the row of a kind of notes in the table
abbrev pub note_row_of : Note → NoteRow
note_row_of PlaceableChecksum = note_row 0 (codes "PlaceableChecksum")
note_row_of PlaceableFields = note_row 1 (codes "PlaceableFields")
note_row_of SizeField = note_row 2 (codes "SizeField")
note_row_of AfterEnd = note_row 3 (codes "AfterEnd")
note_row_of DashedPen = note_row 4 (codes "DashedPen")
note_row_of WidePen = note_row 5 (codes "WidePen")
note_row_of Isotropic = note_row 6 (codes "Isotropic")
note_row_of EmfPlus = note_row 7 (codes "EmfPlus")
note_row_of Skipped = note_row 8 (codes "Skipped")
