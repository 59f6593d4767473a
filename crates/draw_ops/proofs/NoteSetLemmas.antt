-- A set of notes with one kind more.
use Rattle.std.proofs.Common.{◌≡◌, ◌≢◌, ℕ, ◌*◌, ◌%◌, ◌^◌, ◌<◌, bit_or, refl, arith}
use Rattle.std.specs.Int.{w16, bit_at}
use Rattle.std.proofs.lemmas.Nat.{or_lt, pow_below}
use Rattle.std.proofs.lemmas.Nat.Bits.{bit_at_set_same, bit_at_set_other}
use Rattle.draw_ops.specs.NoteKinds.{noted}
use Rattle.draw_ops.specs.NoteSet.{bits_of}
use Rattle.draw_ops.specs.NoteTable.{note_row_of}
use Rattle.draw_ops.specs.declared.note.Note.{Note}
use Rattle.draw_ops.specs.declared.note.Note.TheVariants.{PlaceableChecksum, PlaceableFields, SizeField, AfterEnd, DashedPen, WidePen, Isotropic, EmfPlus, Skipped}

same : (n k : ℕ) → k < 16 → bit_at (bit_or n (1 * 2 ^ k % 2 ^ 16)) k ≡ 1
same n k h = bit_at_set_same w16 n k h

other : (n k i : ℕ) → k < 16 → i ≢ k → bit_at (bit_or n (1 * 2 ^ k % 2 ^ 16)) i ≡ bit_at n i
other n k i h ne = bit_at_set_other w16 n k h i ne

-- the bit at the kind's index is set, and each other stays
pub with_bit : (note : Note) (n : ℕ) → bits_of (bit_or n (1 * 2 ^ (note_row_of note).index % 2 ^ 16)) ≡ noted (bits_of n) note
with_bit PlaceableChecksum n = rw (same n 0 (omega arith), other n 0 1 (omega arith) (omega arith), other n 0 2 (omega arith) (omega arith), other n 0 3 (omega arith) (omega arith), other n 0 4 (omega arith) (omega arith), other n 0 5 (omega arith) (omega arith), other n 0 6 (omega arith) (omega arith), other n 0 7 (omega arith) (omega arith), other n 0 8 (omega arith) (omega arith)) refl
with_bit PlaceableFields n = rw (other n 1 0 (omega arith) (omega arith), same n 1 (omega arith), other n 1 2 (omega arith) (omega arith), other n 1 3 (omega arith) (omega arith), other n 1 4 (omega arith) (omega arith), other n 1 5 (omega arith) (omega arith), other n 1 6 (omega arith) (omega arith), other n 1 7 (omega arith) (omega arith), other n 1 8 (omega arith) (omega arith)) refl
with_bit SizeField n = rw (other n 2 0 (omega arith) (omega arith), other n 2 1 (omega arith) (omega arith), same n 2 (omega arith), other n 2 3 (omega arith) (omega arith), other n 2 4 (omega arith) (omega arith), other n 2 5 (omega arith) (omega arith), other n 2 6 (omega arith) (omega arith), other n 2 7 (omega arith) (omega arith), other n 2 8 (omega arith) (omega arith)) refl
with_bit AfterEnd n = rw (other n 3 0 (omega arith) (omega arith), other n 3 1 (omega arith) (omega arith), other n 3 2 (omega arith) (omega arith), same n 3 (omega arith), other n 3 4 (omega arith) (omega arith), other n 3 5 (omega arith) (omega arith), other n 3 6 (omega arith) (omega arith), other n 3 7 (omega arith) (omega arith), other n 3 8 (omega arith) (omega arith)) refl
with_bit DashedPen n = rw (other n 4 0 (omega arith) (omega arith), other n 4 1 (omega arith) (omega arith), other n 4 2 (omega arith) (omega arith), other n 4 3 (omega arith) (omega arith), same n 4 (omega arith), other n 4 5 (omega arith) (omega arith), other n 4 6 (omega arith) (omega arith), other n 4 7 (omega arith) (omega arith), other n 4 8 (omega arith) (omega arith)) refl
with_bit WidePen n = rw (other n 5 0 (omega arith) (omega arith), other n 5 1 (omega arith) (omega arith), other n 5 2 (omega arith) (omega arith), other n 5 3 (omega arith) (omega arith), other n 5 4 (omega arith) (omega arith), same n 5 (omega arith), other n 5 6 (omega arith) (omega arith), other n 5 7 (omega arith) (omega arith), other n 5 8 (omega arith) (omega arith)) refl
with_bit Isotropic n = rw (other n 6 0 (omega arith) (omega arith), other n 6 1 (omega arith) (omega arith), other n 6 2 (omega arith) (omega arith), other n 6 3 (omega arith) (omega arith), other n 6 4 (omega arith) (omega arith), other n 6 5 (omega arith) (omega arith), same n 6 (omega arith), other n 6 7 (omega arith) (omega arith), other n 6 8 (omega arith) (omega arith)) refl
with_bit EmfPlus n = rw (other n 7 0 (omega arith) (omega arith), other n 7 1 (omega arith) (omega arith), other n 7 2 (omega arith) (omega arith), other n 7 3 (omega arith) (omega arith), other n 7 4 (omega arith) (omega arith), other n 7 5 (omega arith) (omega arith), other n 7 6 (omega arith) (omega arith), same n 7 (omega arith), other n 7 8 (omega arith) (omega arith)) refl
with_bit Skipped n = rw (other n 8 0 (omega arith) (omega arith), other n 8 1 (omega arith) (omega arith), other n 8 2 (omega arith) (omega arith), other n 8 3 (omega arith) (omega arith), other n 8 4 (omega arith) (omega arith), other n 8 5 (omega arith) (omega arith), other n 8 6 (omega arith) (omega arith), other n 8 7 (omega arith) (omega arith), same n 8 (omega arith)) refl

-- the same, at a number that is the kind's index
pub with_bit_at : (note : Note) (n index : ℕ) → index ≡ (note_row_of note).index → bits_of (bit_or n (1 * 2 ^ index % 2 ^ 16)) ≡ noted (bits_of n) note
with_bit_at note n index e = rw e (with_bit note n)

-- one bit more stays below the tenth
pub with_bit_within : (n index : ℕ) → n < 512 → index < 9 → bit_or n (1 * 2 ^ index % 65536) < 512
with_bit_within n index h i =
    let power : 2 ^ index < 512 = pow_below index 9 i in
    let bit : 1 * 2 ^ index % 65536 < 512 = omega arith in
    or_lt 9 n (1 * 2 ^ index % 65536) h bit
