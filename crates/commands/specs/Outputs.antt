-- When an output failed, and when it was flushed.
use Rattle.std.specs.Prelude.{◌≡◌, ◌≢◌, ◌<◌, ℕ, Bool, OnErr, true, ⊤}
use Rattle.command_lines.specs.CommandLine.{texts_of}
use Rattle.commands.specs.Lines.{HoldsOfAny, HoldsOfWords}
use Rattle.commands.specs.declared.command_end.Completion.{Completion}
use Rattle.commands.specs.declared.program.Call.{Call}
use Rattle.commands.specs.declared.command_end.CommandEnd.TheVariants as end
use Rattle.command_lines.specs.declared.asked.CommandLine.{CommandLine}
use Rattle.command_lines.specs.declared.asked.CommandLine.TheVariants.{Check, List as ListLine, Prepare}

module _ {W : Type 0} where
  -- a writer failed: its count of faults rose
  abbrev pub Rises : (W → ℕ) → W → W → Type 0
  Rises count old new = count old < count new

  -- The output of the command failed. A prepared certificate goes to its own file, and then the output is unchanged.
  abbrev pub OutputFailed : (W → ℕ) → W → W → CommandLine → Type 0
  OutputFailed count old new (Prepare name rules width height output) = new ≡ old
  OutputFailed count old new line = Rises count old new

  -- the output was flushed after the last byte; it is unchanged if the command writes to a file
  abbrev pub OutputFlushed : (W → Bool) → W → W → CommandLine → Type 0
  OutputFlushed flushed old new (Prepare name rules width height output) = new ≡ old
  OutputFlushed flushed old new line = flushed new ≡ true

  -- the output of a rejected check or listing was flushed after the last byte; no other rejected command writes to it
  abbrev pub RejectedFlushed : (W → Bool) → W → CommandLine → Type 0
  RejectedFlushed flushed new (Check name certificate) = flushed new ≡ true
  RejectedFlushed flushed new (ListLine name rules) = flushed new ≡ true
  RejectedFlushed flushed new line = ⊤

  -- the output of the command failed, or was flushed, for a command that the words ask for
  abbrev pub FailsAsked : Call → (W → ℕ) → W → W → Type 0
  FailsAsked call count old new = HoldsOfWords (texts_of call.words.now) (OutputFailed count old new) (λ names task. Rises count old new) (Rises count old new)

  abbrev pub FlushesAsked : Call → (W → Bool) → W → W → Type 0
  FlushesAsked call flushed old new = HoldsOfWords (texts_of call.words.now) (OutputFlushed flushed old new) (λ names task. flushed new ≡ true) (flushed new ≡ true)

  -- the same if the file, or one of several, was rejected, and if a file wasn't read; the version is neither
  abbrev pub FlushesRejected : Call → (W → Bool) → W → Type 0
  FlushesRejected call flushed new = HoldsOfWords (texts_of call.words.now) (RejectedFlushed flushed new) (λ names task. flushed new ≡ true) ⊥

  abbrev pub FlushesUnread : Call → (W → Bool) → W → Type 0
  FlushesUnread call flushed new = HoldsOfWords (texts_of call.words.now) (λ line. ⊤) (λ names task. flushed new ≡ true) ⊥

  -- and if a certificate of several wasn't stored
  abbrev pub FlushesUnstored : Call → (W → Bool) → W → Type 0
  FlushesUnstored call flushed new = HoldsOfWords (texts_of call.words.now) (λ line. ⊥) (λ names task. flushed new ≡ true) ⊥

  -- for some command
  abbrev pub FailsSome : (W → ℕ) → W → W → Type 0
  FailsSome count old new = HoldsOfAny (OutputFailed count old new) (λ names task. Rises count old new) (Rises count old new)

  abbrev pub FlushesSome : (W → Bool) → W → W → Type 0
  FlushesSome flushed old new = HoldsOfAny (OutputFlushed flushed old new) (λ names task. flushed new ≡ true) (flushed new ≡ true)

  abbrev pub FlushesSomeRejected : (W → Bool) → W → Type 0
  FlushesSomeRejected flushed new = HoldsOfAny (RejectedFlushed flushed new) (λ names task. flushed new ≡ true) ⊥

  -- unless it is the help, the message can be incomplete only because standard error failed
  abbrev pub IsUnreported : Completion → (W → ℕ) → W → W → Type 0
  IsUnreported answer count old new = answer.end ≢ end.Help → OnErr answer.printed (Rises count old new)
