-- How a writer's faults are counted, and when all that it accepted is flushed.
use Rattle.std.specs.Prelude.{◌≡◌, ◌==◌, ℕ, ◌+◌, Bool, true, ◌&&◌, nat_lt, if◌then◌else◌, List, length, Result, Ok, Err}

-- a write failed, or accepted none of some bytes
abbrev pub is_fault : {E : Type 0} → Result ℕ E → List ℕ → Bool
is_fault (Ok count) bytes = count == 0 && nat_lt 0 (length bytes)
is_fault (Err e) bytes = true

-- the count rises by one if the write was a fault, and otherwise doesn't change
abbrev pub CountsFault : {E : Type 0} → ℕ → ℕ → Result ℕ E → List ℕ → Type 0
CountsFault old new result bytes = new ≡ old + (if is_fault result bytes then 1 else 0)

-- the count rises by one if the flush failed, and otherwise doesn't change
abbrev pub CountsFlush : {T E : Type 0} → ℕ → ℕ → Result T E → Type 0
CountsFlush old new (Ok _) = new ≡ old
CountsFlush old new (Err _) = new ≡ old + 1

-- whether everything is flushed after a write: not if the write accepted a byte
abbrev pub flushed_by_write : {E : Type 0} → Bool → Result ℕ E → Bool
flushed_by_write flushed (Ok count) = flushed && count == 0
flushed_by_write flushed (Err e) = flushed

-- whether everything is flushed after a flush: yes, if the flush succeeded
abbrev pub flushed_by_flush : {T E : Type 0} → Bool → Result T E → Bool
flushed_by_flush flushed (Ok _) = true
flushed_by_flush flushed (Err e) = flushed
