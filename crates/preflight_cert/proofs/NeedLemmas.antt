-- Room for what an operation needs is enough for it.
use Rattle.std.proofs.Common.{List, [], ◌∷◌, inl, inr, arith}
use Rattle.draw_ops.specs.Content.{StepValue}
use Rattle.draw_ops.specs.Operation.{Operation}
use Rattle.object_tables.specs.Table.{CreatedIndexIsBelowBound}
use Rattle.dc_stack.specs.MachineState.{HasFullCapacity, MachineState, WantsCapacity}
use Rattle.draw_ops.specs.declared.fault.Fault.{Fault}
use Rattle.dc_stack.specs.Needs.{greater_needs, needs_of}
use Rattle.dc_stack.specs.Next.{next}
use Rattle.dc_stack.specs.OperationFault.{plain_fault}
use Rattle.dc_stack.specs.Path.{piece_limit}
use Rattle.dc_stack.specs.State.{State}
use Rattle.dc_stack.specs.declared.needs.Needs.{Needs}
use Rattle.preflight_cert.specs.After.{needs_after}
use Rattle.preflight_cert.specs.NeedLaws.{AreWithin, HasCapacityFor, NeedLaws}
use Rattle.preflight_cert.proofs.NeedLimitLemmas.{limited}
use Rattle.preflight_cert.proofs.OperationNeeds.{added_needed, needed_edges, within}
use Rattle.preflight_cert.proofs.StopLemmas.{none_first}

-- so there is room for what an operation needs
enough : (operation : Operation) (m : MachineState) (fault : Fault) → HasCapacityFor (needs_of operation m.state) m → WantsCapacity operation m fault → ⊥
enough operation m fault capacity wants = elim wants.lacks [
  | inl depth ↦ let there = rw depth.saves at capacity.depth in omega (arith, there, depth.full)
  | inr other ↦ elim other [
    | inl slot ↦ let there = rw slot.creates at capacity.slots in omega (arith, there, slot.full)
    | inr pieces ↦ let needed = added_needed operation m.state pieces.adds in omega (arith, needed, capacity.pieces, pieces.full)
  ]
]

-- and full room is room for what an operation without a fault needs
full : CreatedIndexIsBelowBound → (operation : Operation) (m : MachineState) (fault : Fault) → HasFullCapacity m → WantsCapacity operation m fault → ⊥
unfolding piece_limit
full laws operation m fault capacity wants =
    let one = within laws operation m.state (none_first (plain_fault operation m.state) _ wants.no_fault) in
    let depth = one.depth in let slots = one.slots in let pieces = one.pieces in
    let deep = capacity.depth in let many = capacity.slots in let long = capacity.pieces in
    enough operation m fault (record { depth = omega (arith, depth, deep); slots = omega (arith, slots, many); pieces = omega (arith, pieces, long) }) wants

-- needs are within themselves and, as each step only adds to them, within those of all steps
pub within_same : (needs : Needs) → AreWithin needs needs
within_same needs = record { depth = omega arith; slots = omega arith; edges = omega arith; pieces = omega arith }

before : (steps : List StepValue) (state : State) (needs : Needs) → AreWithin needs (needs_after steps state needs)
before [] state needs = within_same needs
before (step ∷ steps) state needs =
    let rest = before steps (next step.operation state) (greater_needs needs (needs_of step.operation state)) in
    record { depth = omega (arith, rest.depth); slots = omega (arith, rest.slots); edges = omega (arith, rest.edges); pieces = omega (arith, rest.pieces) }

pub need_laws : CreatedIndexIsBelowBound → NeedLaws
need_laws laws = record { enough = enough; full = full laws; edges = needed_edges; before = before; limited = limited laws }
