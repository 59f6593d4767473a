-- The value of a step.
use Rattle.std.specs.Prelude.{Result}
use Rattle.draw_ops.specs.Content.{StepValue}
use Rattle.draw_ops.specs.NoteSet.{notes_in}
use Rattle.draw_ops.specs.OperationOf.{operation_of}
use Rattle.draw_ops.specs.Results.{result_map}
use Rattle.draw_ops.specs.declared.record_fault.RecordFault.{RecordFault}
use Rattle.draw_ops.specs.declared.step.Step.{Step}

abbrev pub step_value_of : Step → StepValue
step_value_of step = record { number = step.number; operation = operation_of step.op; notes = notes_in step.notes }

-- the step in a variable, or the fault instead of one
abbrev pub step_or_fault : {T : Type 0} → Step → Result T RecordFault → Result StepValue RecordFault
step_or_fault step result = result_map (λ _. step_value_of step) result
