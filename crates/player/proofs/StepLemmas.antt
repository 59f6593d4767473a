-- If a step fails on a machine with enough memory, or the source breaks, the whole stops.
use Rattle.std.proofs.Common.{◌≡◌, ℕ, List, [], ◌∷◌, length, Option, Some, None, inl, inr, refl, sym, ap, ◌∙◌, arith}
use Rattle.std.specs.Option.{option_map, option_or}
use Rattle.mapping.specs.Surface.{Surface}
use Rattle.draw_ops.specs.Content.{Content, StepValue, broken_by, with_step}
use Rattle.draw_ops.specs.declared.fault.Fault.{Fault}
use Rattle.draw_ops.specs.declared.fault.Fault.TheVariants.{Record}
use Rattle.draw_ops.specs.declared.record_fault.RecordFault.{RecordFault}
use Rattle.dc_stack.specs.MachineState.{MachineState, RejectsStep}
use Rattle.dc_stack.specs.Needs.{greater_needs, needs_of}
use Rattle.dc_stack.specs.Next.{next}
use Rattle.dc_stack.specs.OperationFault.{fault_of}
use Rattle.dc_stack.specs.State.{State}
use Rattle.player.specs.After.{HasCapacityForSteps}
use Rattle.preflight_cert.specs.NeedLaws.{HasCapacityFor, NeedLaws}
use Rattle.preflight_cert.specs.Stop.{Stop, broken_after, step_stop, stop_at, stop_of, stopped, stopped_or}

-- memory for the needs of all steps is memory for those of the first
capacity_for_first : NeedLaws → (step : StepValue) (rest : Content) (m : MachineState) → HasCapacityForSteps (with_step step rest) m → HasCapacityFor (needs_of step.operation m.state) m
capacity_for_first laws step rest m capacity =
    let within = laws.before rest.steps (next step.operation m.state) (greater_needs m.needs (needs_of step.operation m.state)) in
    let depth = within.depth in let slots = within.slots in let pieces = within.pieces in
    let deep = capacity.depth in let many = capacity.slots in let long = capacity.pieces in
    record { depth = omega (arith, depth, deep); slots = omega (arith, slots, many); pieces = omega (arith, pieces, long) }

-- a step fails by the operation's fault, not because an allocation failed
rejected_by_fault : NeedLaws → (left rest : Content) (step : StepValue) (m : MachineState) (fault : Fault) → left ≡ with_step step rest → HasCapacityForSteps left m → RejectsStep step.operation m fault
    → option_map Record (fault_of step.operation m.state m.surface) ≡ Some fault
rejected_by_fault laws left rest step m fault is capacity rejects = elim rejects [
  | inl h ↦ h
  | inr wants ↦ absurd (laws.enough step.operation m fault (capacity_for_first laws step rest m (rw is at capacity)) wants)
]

-- the fault that was found
record IsFound (found : Option RecordFault) : Type 0 where
  here : RecordFault
  is : found ≡ Some here

found_of : (found : Option RecordFault) (fault : Fault) → option_map Record found ≡ Some fault → IsFound found
found_of None fault h = cc
found_of (Some here) fault h = record { here = here; is = refl }

none_some : (stop : Option Stop) (at : Stop) → stop ≡ None → stop ≡ Some at → ⊥
none_some stop at n s = cc

-- after steps without a fault, the whole stops as the rest does
module _ (whole left : Content) (start state : State) (s : Surface)
    (same : stopped whole.steps (broken_after (length whole.steps) whole.fault) start s ≡ stopped left.steps (broken_after (length whole.steps) whole.fault) state s) where
  -- the whole stops if the source breaks
  pub broken_stops : (fault : RecordFault) → left ≡ broken_by fault → left.fault ≡ whole.fault → stopped whole.steps (broken_after (length whole.steps) whole.fault) start s ≡ None → ⊥
  broken_stops fault is kept none =
      let breaks : whole.fault ≡ Some fault = sym kept ∙ ap (λ (k : Content). k.fault) is in
      let here : stopped left.steps (broken_after (length whole.steps) whole.fault) state s ≡ Some (stop_at (length whole.steps) fault) =
      ap (λ (k : Content). stopped k.steps (broken_after (length whole.steps) whole.fault) state s) is ∙ ap (broken_after (length whole.steps)) breaks in
      none_some _ (stop_at (length whole.steps) fault) none (same ∙ here)

  -- the whole stops if its first step has a fault
  at_first : (rest : Content) (step : StepValue) → left ≡ with_step step rest → IsFound (fault_of step.operation state s) → stopped whole.steps (broken_after (length whole.steps) whole.fault) start s ≡ None → ⊥
  at_first rest step is found none =
      let here : stopped left.steps (broken_after (length whole.steps) whole.fault) state s ≡ Some (stop_at step.number found.here) = rw (is, found.is) refl in
      none_some _ (stop_at step.number found.here) none (same ∙ here)

pub rejected_stops :
    NeedLaws → (whole left rest : Content) (step : StepValue) (start : State) (m : MachineState) (fault : Fault) → left ≡ with_step step rest
    → HasCapacityForSteps left m → RejectsStep step.operation m fault
    → stopped whole.steps (broken_after (length whole.steps) whole.fault) start m.surface ≡ stopped left.steps (broken_after (length whole.steps) whole.fault) m.state m.surface
    → stopped whole.steps (broken_after (length whole.steps) whole.fault) start m.surface ≡ None → ⊥
rejected_stops laws whole left rest step start m fault is capacity rejects same none =
    at_first whole left start m.state m.surface same rest step is
    (found_of (fault_of step.operation m.state m.surface) fault (rejected_by_fault laws left rest step m fault is capacity rejects)) none

-- if a content doesn't stop, no step of it has a fault, and its records don't break
pub steps_unstopped : (content : Content) (state : State) (s : Surface) → stop_of content state s ≡ None → step_stop content state s ≡ None
steps_unstopped content state s h = over content.steps state _ _ (first _ _) h
  where
    first : (one other : Option Stop) → option_or one other ≡ None → one ≡ None
    first None other h = refl
    first (Some stop) other h = absurd (cc)

    kept : (number : ℕ) (fault : Option RecordFault) (later other : Option Stop) → (later ≡ None → other ≡ None) → stopped_or number fault later ≡ None
        → stopped_or number fault other ≡ None
    kept number None later other f h = f h
    kept number (Some fault) later other f h = absurd (cc)

    over : (steps : List StepValue) (state : State) (after other : Option Stop) → (after ≡ None → other ≡ None) → stopped steps after state s ≡ None
        → stopped steps other state s ≡ None
    over [] state after other f h = f h
    over (step ∷ steps) state after other f h =
        kept step.number (fault_of step.operation state s) _ _ (over steps (next step.operation state) after other f) h
