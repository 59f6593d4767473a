-- What remains in a source over a file's records.
use Rattle.std.specs.Prelude.{ℕ, zero, suc, ◌-◌, ◌==◌, List, if◌then◌else◌, Result, Ok, Err}
use Rattle.draw_ops.specs.Content.{Content, StepValue, nothing_left, broken_by, with_step}
use Rattle.draw_ops.specs.Meaning.{Meaning, step_of}
use Rattle.draw_ops.specs.Records.{Framing, record_limit, kind_of, framing_fault, leading_of, rest_of}
use Rattle.draw_ops.specs.Results.{result_unless}
use Rattle.draw_ops.specs.declared.record_fault.RecordFault.{RecordFault}
use Rattle.draw_ops.specs.declared.record_fault.RecordFault.TheVariants.{TooManyRecords}
use Rattle.draw_ops.specs.declared.record_ops.Reading.{Reading}
use Rattle.draw_ops.specs.declared.record_ops.Reading.TheVariants.{Records, Ended, Failed}

-- the step of the next record, which has this number, or its first fault
abbrev pub leading_step : Framing → Meaning → ℕ → List ℕ → Result StepValue RecordFault
leading_step f meaning number bytes = result_unless (framing_fault f number bytes) (step_of f meaning (rest_of f bytes) number (leading_of f bytes))

-- the next step, followed by what remains after its record, which is nothing after the end record
abbrev pub first_then : Framing → List ℕ → Result StepValue RecordFault → Content → Content
first_then f bytes (Err fault) rest = broken_by fault
first_then f bytes (Ok step) rest = with_step step (if kind_of f bytes == f.end_kind then nothing_left else rest)

-- the content of bytes from the record with this number on, if at most this many records may follow
abbrev pub content_from : Framing → Meaning → ℕ → ℕ → List ℕ → Content
content_from f meaning zero number bytes = broken_by TooManyRecords
content_from f meaning (suc remaining) number bytes =
    first_then f bytes (leading_step f meaning number bytes) (content_from f meaning remaining (suc number) (rest_of f bytes))

-- what remains in a state of reading
abbrev pub content_left : Framing → Meaning → Reading → ℕ → List ℕ → Content
content_left f meaning Records number bytes = content_from f meaning (record_limit - number) number bytes
content_left f meaning Ended number bytes = nothing_left
content_left f meaning (Failed fault) number bytes = broken_by fault
