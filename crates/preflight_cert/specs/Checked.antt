-- A certificate's entries against the steps of a file, at the size of its bound: the first fault, in the order of the
-- records.
use Rattle.std.specs.Prelude.{ℕ, ◌-◌, List, [], ◌∷◌, length, Option, Some, None}
use Rattle.std.specs.Option.{option_or}
use Rattle.mapping.specs.Surface.{Surface}
use Rattle.draw_ops.specs.Content.{Content, StepValue}
use Rattle.draw_ops.specs.declared.record_fault.RecordFault.TheVariants.{WrongEntry}
use Rattle.dc_stack.specs.Drawing.{drawing_of}
use Rattle.dc_stack.specs.Next.{next}
use Rattle.dc_stack.specs.OperationFault.{fault_of}
use Rattle.dc_stack.specs.State.{State}
use Rattle.preflight_cert.specs.Entries.{entries_after, entry_fault}
use Rattle.preflight_cert.specs.Stop.{Stop, end_of, stop_at, stopped_or}
use Rattle.preflight_cert.specs.declared.certificate_entry.Entry.{Entry}

-- the fault of a surplus entry, in the last of the records
abbrev pub left_over : ℕ → List Entry → Option Stop
left_over count [] = None
left_over count (entry ∷ entries) = Some (stop_at (count - 1) WrongEntry)

-- The first fault of the steps and of the entries, each operation and its entry in the state before it; or else what
-- stops after them, or a surplus entry.
abbrev pub checked : List StepValue → Option Stop → ℕ → State → Surface → List Entry → Option Stop
checked [] after count state s entries = option_or after (left_over count entries)
checked (step ∷ steps) after count state s entries =
    stopped_or step.number (option_or (fault_of step.operation state s) (entry_fault step.number (drawing_of step.operation state) entries s))
    (checked steps after count (next step.operation state) s (entries_after (drawing_of step.operation state) entries))

-- where a content stops that is checked against entries
abbrev pub check_of : Content → State → Surface → List Entry → Option Stop
check_of content state s entries = checked content.steps (end_of content state) (length content.steps) state s entries
