-- The number of notes of each kind: a list of counts, in the order of the table of notes.
use Rattle.std.specs.Prelude.{ℕ, ◌+◌, min, List, [], ◌∷◌, replicate, slice_index, slice_set}
use Rattle.draw_ops.specs.NoteTable.{note_row_of}
use Rattle.draw_ops.specs.declared.note.Note.{Note}

-- The greatest count of notes of one kind. A file can't have as many, because it has at most 1,048,576 records.
abbrev pub note_limit : ℕ
note_limit = 4294967295

-- the number of notes of a kind
abbrev pub note_count : List ℕ → Note → ℕ
note_count counts note = slice_index counts (note_row_of note).index

-- no notes
abbrev pub no_notes : List ℕ
no_notes = replicate 9 0

-- one more note of a kind; the other counts are unchanged
abbrev pub with_note : List ℕ → Note → List ℕ
with_note counts note = slice_set counts (note_row_of note).index (min (note_count counts note + 1) note_limit)

-- the sums of two lists of counts
abbrev pub added_notes : List ℕ → List ℕ → List ℕ
added_notes (count ∷ counts) (more ∷ others) = min (count + more) note_limit ∷ added_notes counts others
added_notes counts others = []
