-- Sets of kinds of notes: for each kind, in the order of the table of notes, 1 if it is in the set, otherwise 0.
use Rattle.std.specs.Prelude.{ℕ, Bool, ◌==◌, List, slice_index, slice_set}
use Rattle.draw_ops.specs.NoteTable.{note_row_of}
use Rattle.draw_ops.specs.declared.note.Note.{Note}

-- the set contains a kind
abbrev pub is_noted : List ℕ → Note → Bool
is_noted notes note = slice_index notes (note_row_of note).index == 1

-- the set with one kind added
abbrev pub noted : List ℕ → Note → List ℕ
noted notes note = slice_set notes (note_row_of note).index 1
