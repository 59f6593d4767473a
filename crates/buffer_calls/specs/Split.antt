-- A text whose header goes to an array, and whose samples go to a buffer.
use Rattle.std.specs.Prelude.{◌≡◌, ◌≤◌, ℕ, ◌+◌, ◌-◌, if◌then◌else◌, nat_lt, List, ◌∷◌, ◌++◌, length, take, drop}
use Rattle.std.specs.Borrow.{MutBor}
use Rattle.buffer_calls.specs.declared.split.Split.{Split}

-- the bytes of a header that isn't written in full yet
abbrev pub header_of : Split → List ℕ
header_of split = take split.written split.header

-- the bytes that were written: those of the header, and then those of the buffer
abbrev pub text_of : Split → List ℕ → List ℕ
text_of split samples = take split.written (take split.header_length split.header ++ samples)

-- all bytes of header and buffer were written
abbrev pub IsFull : Split → List ℕ → Type 0
IsFull split samples = split.written ≡ split.header_length + length samples

-- the bytes of a buffer after those that were written
abbrev pub rest_of : Split → List ℕ → List ℕ
rest_of split samples = drop (split.written - split.header_length) samples

-- how many bytes the buffer has capacity for after those that were written
abbrev pub capacity_left : Split → List ℕ → ℕ
capacity_left split samples = length samples - (split.written - split.header_length)

-- how many bytes are taken at once at most: up to the end of the header, or after it as many as the buffer has capacity
-- for
abbrev pub taken_at_once : Split → List ℕ → ℕ
taken_at_once split samples =
    if nat_lt split.written split.header_length then split.header_length - split.written else capacity_left split samples

-- this many more bytes were written after a header of the same length, and the rest of the buffer is unchanged
pub record GoesOn (count : ℕ) (old : Split) (before : List ℕ) (new : Split) (after : List ℕ) : Type 0 where
  pub header : new.header_length ≡ old.header_length
  pub written : new.written ≡ old.written + count
  pub within : new.written ≤ new.header_length + length after
  pub size : length after ≡ length before
  pub rest : rest_of new after ≡ rest_of new before

-- What a writer of such a text holds: the identity of its buffer, and what was written. Code that is generic over
-- writers appends to this, and so it keeps the buffer.
abbrev pub held : Split → MutBor (List ℕ) → List ℕ
held split samples = samples.ghost_name ∷ text_of split samples.now
