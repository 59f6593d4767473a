-- Texts in a buffer.
use Rattle.std.specs.Prelude.{◌≡◌, ◌≤◌, ◌<◌, ℕ, List, ◌++◌, length, drop}
use Rattle.buffer_calls.specs.declared.outcome.Outcome.{Outcome}
use Rattle.buffer_calls.specs.declared.outcome.Outcome.TheVariants.{Done, OutOfMemory, Rejected, TooShort}

-- a text of this length was copied to the start of a buffer, and the rest of the buffer is unchanged
pub record IsCopied (text : List ℕ) (count : ℕ) (old new : List ℕ) : Type 0 where
  pub counted : count ≡ length text
  pub fits : count ≤ length old
  pub copied : new ≡ text ++ drop count old

-- a buffer is shorter than this, and unchanged
pub record IsTooShort (count : ℕ) (old new : List ℕ) : Type 0 where
  pub short : length old < count
  pub kept : new ≡ old

-- a text with some property was copied to the start of the buffer
pub record WritesText (holds : List ℕ → Type 0) (count : ℕ) (old new : List ℕ) : Type 0 where
  pub text : List ℕ
  pub fact : holds text
  pub copied : IsCopied text count old new

-- the buffer is too short for a text with some property, which has this length
pub record NeedsText (holds : List ℕ → Type 0) (count : ℕ) (old new : List ℕ) : Type 0 where
  pub text : List ℕ
  pub fact : holds text
  pub counted : count ≡ length text
  pub short : IsTooShort count old new

-- How the call ends that copies a text with some property: it is done, or the buffer is too short.
abbrev pub EndsText : (List ℕ → Type 0) → List ℕ → List ℕ → Outcome → Type 0
EndsText holds old new (Done count) = WritesText holds count old new
EndsText holds old new (TooShort count) = NeedsText holds count old new
EndsText holds old new (Rejected r) = ⊥
EndsText holds old new OutOfMemory = ⊥
