-- What successive steps need, and the memory for their drawings.
use Rattle.std.proofs.Common.{◌≡◌, ℕ, ◌≤◌, max, List, ◌∷◌, Option, Some, None, IfSome, arith, inl, inr, refl, subst, sym}
use Rattle.std.specs.Option.{option_map}
use Rattle.draw_ops.specs.Content.{Content, StepValue, with_step}
use Rattle.dc_stack.specs.Drawing.{drawing_edges, drawing_of, edge_limit}
use Rattle.dc_stack.specs.Draws.{IsPlacedDraw}
use Rattle.dc_stack.specs.MachineState.{GoesOn, HasStepped, IsDrawingOf, MachineState, drawing_with}
use Rattle.dc_stack.specs.Needs.{greater_needs, needs_of}
use Rattle.dc_stack.specs.Next.{next}
use Rattle.dc_stack.specs.State.{State}
use Rattle.dc_stack.specs.declared.draw.Draw.{Draw}
use Rattle.dc_stack.specs.declared.needs.Needs.{Needs}
use Rattle.mapping.specs.Surface.{Surface}
use Rattle.player.specs.After.{HasLines, HasCapacityForSteps}
use Rattle.preflight_cert.specs.After.{needs_after}
use Rattle.preflight_cert.specs.NeedLaws.{HasCapacityFor, NeedLaws}

-- memory for a step and the rest is memory for the rest, on the machine after the step
pub capacity_after : (content rest : Content) (step : StepValue) (old new : MachineState) → content ≡ with_step step rest → HasStepped step.operation old new → GoesOn old new → HasCapacityForSteps content old → HasCapacityForSteps rest new
capacity_after content rest step old new is stepped on capacity =
    let whole : HasCapacityFor (needs_after (step ∷ rest.steps) old.state old.needs) old = rw is at capacity in
    let depth = whole.depth in
    let slots = whole.slots in
    let pieces = whole.pieces in
    let more_depth = on.depth in
    let more_slots = on.slots in
    let more_pieces = on.pieces in
    let left : HasCapacityFor (needs_after rest.steps (next step.operation old.state) (greater_needs old.needs (needs_of step.operation old.state))) new = record {
      depth = omega (arith, depth, more_depth);
      slots = omega (arith, slots, more_slots);
      pieces = omega (arith, pieces, more_pieces);
    } in
    let same : needs_after rest.steps new.state new.needs ≡ needs_after rest.steps (next step.operation old.state) (greater_needs old.needs (needs_of step.operation old.state)) = rw (stepped.state, stepped.needs) refl in
    subst (λ (needs : Needs). HasCapacityFor needs new) (sym same) left

-- the same for lines
pub lines_after : (capacity : ℕ) (content rest : Content) (step : StepValue) (old new : MachineState) → content ≡ with_step step rest → HasStepped step.operation old new → HasLines capacity content old → HasLines capacity rest new
lines_after capacity content rest step old new is stepped has = elim has [
  | inl any ↦ inl any
  | inr enough ↦
      let whole : (needs_after (step ∷ rest.steps) old.state old.needs).edges ≤ capacity = rw is at enough in
      inr (rw (stepped.state, stepped.needs) whole)
]

-- the maximum of two numbers is at least the second
right_of_two : (a b : ℕ) → b ≤ max a b
right_of_two a b = grind arith

-- what is enough for a step and the rest is enough for the step
enough_for_step : NeedLaws → (steps : List StepValue) (step : StepValue) (state : State) (needs : Needs) (lines : ℕ) → (needs_after (step ∷ steps) state needs).edges ≤ lines → drawing_edges (drawing_of step.operation state) ≤ lines
enough_for_step laws steps step state needs lines h =
    let same = laws.edges step.operation state in
    let this = right_of_two needs.edges (needs_of step.operation state).edges in
    let rest = laws.before steps (next step.operation state) (greater_needs needs (needs_of step.operation state)) in
    let edges = rest.edges in
    omega (arith, same, this, edges, h)

-- a drawing, if there is one, has few lines
few_edges : (s : Surface) (new : MachineState) (draw : Option Draw) → IfSome draw (IsPlacedDraw s new.painted) → drawing_edges (option_map (drawing_with new) draw) ≤ edge_limit
few_edges s new None placed = omega arith
few_edges s new (Some draw) placed = placed.few

-- the row buffer can take the lines of the step
pub lines_for_first : NeedLaws → (capacity : ℕ) (content rest : Content) (step : StepValue) (old new : MachineState) (draw : Option Draw) → content ≡ with_step step rest → IsDrawingOf step.operation old new draw → IfSome draw (IsPlacedDraw old.surface new.painted) → HasLines capacity content old → drawing_edges (option_map (drawing_with new) draw) ≤ capacity
lines_for_first laws capacity content rest step old new draw is drawn placed has = elim has [
  | inl any ↦ let few = few_edges old.surface new draw placed in omega (arith, few, any)
  | inr enough ↦
      let whole : (needs_after (step ∷ rest.steps) old.state old.needs).edges ≤ capacity = rw is at enough in
      rw drawn (enough_for_step laws rest.steps step old.state old.needs capacity whole)
]
