-- The results of playing the next step of a file.
use Rattle.std.specs.Prelude.{◌≡◌, ◌⊎◌, ℕ, Bool, true, false, IfSome, Option, Some, Result, Ok, Err}
use Rattle.draw_ops.specs.Content.{Content, StepValue, broken_by, nothing_left, with_step}
use Rattle.draw_ops.specs.OperationOf.{operation_of}
use Rattle.draw_ops.specs.StepOf.{step_value_of}
use Rattle.draw_ops.specs.declared.fault.Fault.{Fault}
use Rattle.draw_ops.specs.declared.fault.Fault.TheVariants.{Record}
use Rattle.draw_ops.specs.declared.record_fault.RecordFault.{RecordFault}
use Rattle.draw_ops.specs.declared.step.Step.{Step}
use Rattle.dc_stack.specs.Draws.{IsPlacedDraw}
use Rattle.dc_stack.specs.MachineState.{HasNib, HasStepped, IsDrawingOf, MachineState, RejectsStep}
use Rattle.dc_stack.specs.declared.draw.Draw.{Draw}
use Rattle.preflight_cert.specs.Refusal.{number_reported}
use Rattle.preflight_cert.specs.declared.refusal.Refusal.{Refusal}

-- the next step was played, and this is its drawing
pub record HasPlayedStep (left rest : Content) (old new : MachineState) (step : Step) (drawn : Option Draw) : Type 0 where
  pub first : left ≡ with_step (step_value_of step) rest
  pub stepped : HasStepped (operation_of step.op) old new
  pub drawing : IsDrawingOf (operation_of step.op) old new drawn
  pub placed : IfSome drawn (IsPlacedDraw new.surface new.painted)
  pub nib : IfSome drawn (HasNib new.surface new)
  pub surface : new.surface ≡ old.surface

-- no step remained, and the machine is unchanged
pub record HasEnded (left : Content) (old new : MachineState) : Type 0 where
  pub none_left : left ≡ nothing_left
  pub same : new ≡ old

-- only a fault remained, and the error gives it, with the number of the next record
pub record ReportsBroken (left : Content) (before : ℕ) (r : Refusal) : Type 0 where
  pub fault : RecordFault
  pub broken : left ≡ broken_by fault
  pub number : r.number ≡ Some before
  pub reported : r.fault ≡ Record fault

-- the machine rejected the next step, as the error says
pub record ReportsRejectedStep (left : Content) (old : MachineState) (r : Refusal) : Type 0 where
  pub rest : Content
  pub step : StepValue
  pub fault : Fault
  pub first : left ≡ with_step step rest
  pub rejected : RejectsStep step.operation old fault
  pub number : r.number ≡ number_reported step.number fault
  pub reported : r.fault ≡ fault

-- the next step was played, after this many records, or there was none, or this error says why not
abbrev pub PlaysNext : Content → Content → MachineState → MachineState → ℕ → Step → Option Draw → Result Bool Refusal → Type 0
PlaysNext left rest old new before step drawn (Ok true) = HasPlayedStep left rest old new step drawn
PlaysNext left rest old new before step drawn (Ok false) = HasEnded left old new
PlaysNext left rest old new before step drawn (Err r) = ReportsBroken left before r ⊎ ReportsRejectedStep left old r
