-- What the records of a file ask for, in order.
use Rattle.std.specs.Prelude.{ℕ, List, [], ◌∷◌, Option, Some, None}
use Rattle.draw_ops.specs.Operation.{Operation}
use Rattle.draw_ops.specs.declared.record_fault.RecordFault.{RecordFault}

-- one record: its number in the file, its operation, and for each kind of note 1 if it has that note, otherwise 0
pub record StepValue : Type 0 where
  pub number : ℕ
  pub operation : Operation
  pub notes : List ℕ

-- the steps in order, and at most one fault at their end
pub record Content : Type 0 where
  pub steps : List StepValue
  pub fault : Option RecordFault

-- nothing remains
abbrev pub nothing_left : Content
nothing_left = record { steps = []; fault = None }

-- only a fault remains
abbrev pub broken_by : RecordFault → Content
broken_by fault = record { steps = []; fault = Some fault }

-- a step before others
abbrev pub with_step : StepValue → Content → Content
with_step step content = record { steps = step ∷ content.steps; fault = content.fault }
