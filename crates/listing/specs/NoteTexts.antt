-- The texts of notes.
use Rattle.std.specs.Prelude.{Bool, true, false, ℕ, List, [], ◌++◌, codes}
use Rattle.draw_ops.specs.NoteKinds.{is_noted}
use Rattle.draw_ops.specs.NoteTable.{note_row_of}
use Rattle.draw_ops.specs.declared.note.Note.{Note}
use Rattle.draw_ops.specs.declared.note.Note.TheVariants.{PlaceableChecksum, PlaceableFields, SizeField, AfterEnd, DashedPen, WidePen, Isotropic, EmfPlus, Skipped}

-- a name after a semicolon and a space, if a condition holds
abbrev pub text_where : Bool → List ℕ → List ℕ
text_where true name = codes "; " ++ name
text_where false name = []

-- the name of a kind, if it is among the notes
unfoldable pub note_text : List ℕ → Note → List ℕ
note_text notes note = text_where (is_noted notes note) (note_row_of note).name

-- the names of the kinds of notes, in the order of the table of notes
abbrev pub notes_text : List ℕ → List ℕ
notes_text notes =
    note_text notes PlaceableChecksum ++ note_text notes PlaceableFields ++ note_text notes SizeField ++ note_text notes AfterEnd
    ++ note_text notes DashedPen ++ note_text notes WidePen ++ note_text notes Isotropic ++ note_text notes EmfPlus ++ note_text notes Skipped
