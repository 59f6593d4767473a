-- The number of steps in a content, and what remains after them.
use Rattle.std.specs.Prelude.{ℕ, [], length, Option, Some, None, Result, Ok, Err}
use Rattle.draw_ops.specs.Content.{Content}
use Rattle.draw_ops.specs.declared.record_fault.RecordFault.{RecordFault}

-- a number, or the fault of a content instead
abbrev unless_broken : Option RecordFault → ℕ → Result ℕ RecordFault
unless_broken None n = Ok n
unless_broken (Some fault) n = Err fault

-- the number of steps, or the fault after them
abbrev pub counted : Content → Result ℕ RecordFault
counted content = unless_broken content.fault (length content.steps)

-- what remains after the last step: the fault, if there is one
abbrev pub after_steps : Content → Content
after_steps content = record { steps = []; fault = content.fault }
