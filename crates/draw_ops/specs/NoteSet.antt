-- The kinds in a set of notes.
use Rattle.std.specs.Prelude.{ℕ, List, [], ◌∷◌}
use Rattle.std.specs.Int.{bit_at}
use Rattle.draw_ops.specs.declared.note_set.NoteSet.{NoteSet}

-- the nine lowest bits of a number, from the lowest on
abbrev pub bits_of : ℕ → List ℕ
bits_of n = bit_at n 0 ∷ bit_at n 1 ∷ bit_at n 2 ∷ bit_at n 3 ∷ bit_at n 4 ∷ bit_at n 5 ∷ bit_at n 6 ∷ bit_at n 7 ∷ bit_at n 8 ∷ []

abbrev pub notes_in : NoteSet → List ℕ
notes_in set = bits_of set.bits
