-- The needs of records without a fault are within what any file needs.
use Rattle.std.proofs.Common.{◌≡◌, List, [], ◌∷◌, Option, None, refl, subst, ◌∙◌, arith}
use Rattle.mapping.specs.Surface.{Surface}
use Rattle.draw_ops.specs.Content.{Content, StepValue}
use Rattle.meta_headers.specs.Headers.{OpenedValue}
use Rattle.object_tables.specs.Table.{CreatedIndexIsBelowBound, TableKind, table_kind_of}
use Rattle.dc_stack.specs.Needs.{greater_needs, needs_of, no_needs}
use Rattle.dc_stack.specs.Next.{next}
use Rattle.dc_stack.specs.OperationFault.{fault_of, plain_fault}
use Rattle.dc_stack.specs.State.{State, start_of}
use Rattle.dc_stack.specs.declared.needs.Needs.{Needs}
use Rattle.preflight_cert.specs.After.{file_needs, needs_after}
use Rattle.preflight_cert.specs.NeedLaws.{AreWithin, most_needs}
use Rattle.preflight_cert.specs.Stop.{Stop, end_of, stop_of, stopped}
use Rattle.preflight_cert.proofs.OperationNeeds.{nothing_within, same_kind, within}
use Rattle.preflight_cert.proofs.StopLemmas.{none_first, none_here, none_later}

both_within : (first second most : Needs) → AreWithin first most → AreWithin second most → AreWithin (greater_needs first second) most
both_within first second most a b =
    let depth = a.depth in let slots = a.slots in let edges = a.edges in let pieces = a.pieces in
    let depths = b.depth in let all_slots = b.slots in let all_edges = b.edges in let all_pieces = b.pieces in
    record { depth = omega (arith, depth, depths); slots = omega (arith, slots, all_slots); edges = omega (arith, edges, all_edges); pieces = omega (arith, pieces, all_pieces) }

-- and all steps
module _ (laws : CreatedIndexIsBelowBound) (kind : TableKind) (s : Surface) where
  all_within : (steps : List StepValue) (after : Option Stop) (state : State) (needs : Needs) → stopped steps after state s ≡ None → state.table_kind ≡ kind
      → AreWithin needs (most_needs kind) → AreWithin (needs_after steps state needs) (most_needs kind)
  all_within [] after state needs h e most = most
  all_within (step ∷ steps) after state needs h e most =
      let here : fault_of step.operation state s ≡ None = none_here step.number (fault_of step.operation state s) _ h in
      let one = within laws step.operation state (none_first (plain_fault step.operation state) _ here) in
      let same : AreWithin (needs_of step.operation state) (most_needs kind) = subst (λ (k : TableKind). AreWithin (needs_of step.operation state) (most_needs k)) e one in
      all_within steps after (next step.operation state) (greater_needs needs (needs_of step.operation state)) (none_later step.number _ _ h)
      (same_kind step.operation state ∙ e) (both_within needs (needs_of step.operation state) (most_needs kind) most same)

pub limited : CreatedIndexIsBelowBound → (content : Content) (o : OpenedValue) (s : Surface) → stop_of content (start_of o) s ≡ None → AreWithin (file_needs content o) (most_needs (table_kind_of o.handles))
limited laws content o s h =
    let kind = table_kind_of o.handles in
    all_within laws kind s content.steps (end_of content (start_of o)) (start_of o) no_needs h refl (nothing_within kind)
