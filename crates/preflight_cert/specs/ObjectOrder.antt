-- The order of the objects at any point of a run.
use Rattle.std.specs.Prelude.{List}
use Rattle.draw_ops.specs.Content.{StepValue}
use Rattle.object_tables.specs.Slots.{IsInOrder}
use Rattle.dc_stack.specs.State.{start_of}
use Rattle.meta_headers.specs.Headers.{OpenedValue}
use Rattle.preflight_cert.specs.After.{state_after}

-- after any steps from a file's start on, the objects are sorted by index, and each index occurs once
abbrev pub ObjectsAreInOrder : Type 0
ObjectsAreInOrder = (steps : List StepValue) (o : OpenedValue) → IsInOrder (state_after steps (start_of o)).slots
