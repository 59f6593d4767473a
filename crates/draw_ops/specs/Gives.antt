-- What a call of a source returns.
use Rattle.std.specs.Prelude.{◌≡◌, Bool, true, false, Option, Some, None, Result, Ok, Err, ⊤}
use Rattle.draw_ops.specs.Content.{Content, nothing_left, broken_by, with_step}
use Rattle.draw_ops.specs.StepOf.{step_value_of}
use Rattle.draw_ops.specs.declared.record_fault.RecordFault.{RecordFault}
use Rattle.draw_ops.specs.declared.step.Step.{Step}

-- the content is this one, and doesn't change
pub record Stays (this old new : Content) : Type 0 where
  pub is : old ≡ this
  pub stays : new ≡ old

-- A call returns the first step, and the others remain. If no step remains, it returns nothing or the fault, and so
-- does every later call.
abbrev pub Gives : Content → Result (Option Step) RecordFault → Content → Type 0
Gives old (Ok (Some step)) new = old ≡ with_step (step_value_of step) new
Gives old (Ok None) new = Stays nothing_left old new
Gives old (Err fault) new = Stays (broken_by fault) old new

-- the result of a call that writes a step to a variable: that step, nothing, or the fault
abbrev pub put : Result Bool RecordFault → Step → Result (Option Step) RecordFault
put (Ok true) step = Ok (Some step)
put (Ok false) step = Ok None
put (Err fault) step = Err fault

-- a call that writes no step leaves the variable unchanged
abbrev pub KeepsPlace : Result Bool RecordFault → Step → Step → Type 0
KeepsPlace (Ok true) old new = ⊤
KeepsPlace (Ok false) old new = new ≡ old
KeepsPlace (Err fault) old new = new ≡ old
