-- Runs under the core profile.
use Rattle.std.proofs.Common.{◌≡◌, ℕ, Bool, true, false, ◌&&◌, not, if◌then◌else◌, List, [], ◌∷◌, length, Option, Some, None, refl, ap, sym, ◌∙◌}
use Rattle.std.specs.Option.{option_or}
use Rattle.mapping.specs.Surface.{Surface}
use Rattle.draw_ops.specs.Content.{Content, StepValue}
use Rattle.draw_ops.specs.Operation.{Operation, delete, restore}
use Rattle.draw_ops.specs.RuleSets.{allows_held_deletion, is_print}
use Rattle.draw_ops.specs.declared.record_fault.RecordFault.{RecordFault}
use Rattle.draw_ops.specs.declared.record_fault.RecordFault.TheVariants.{HeldObject, NoSuchHandle}
use Rattle.draw_ops.specs.declared.rules.Rules.{Rules}
use Rattle.object_tables.specs.Slots.{is_taken}
use Rattle.meta_headers.specs.Headers.{OpenedValue}
use Rattle.dc_stack.specs.Next.{next}
use Rattle.dc_stack.specs.OperationFault.{fault_of}
use Rattle.dc_stack.specs.SavedStates.{after_restoring, saved_place}
use Rattle.dc_stack.specs.Selecting.{is_in_use}
use Rattle.dc_stack.specs.State.{State, start_of}
use Rattle.preflight_cert.specs.After.{counted_uses, file_uses, state_after}
use Rattle.preflight_cert.specs.CoreLaws.{CoreLaws}
use Rattle.preflight_cert.specs.TextLaws.{TextLaws}
use Rattle.preflight_cert.proofs.OnePartLemmas.{part_after, part_of_opened}
use Rattle.preflight_cert.specs.Stop.{Stop, broken_after, end_of, step_stop, stop_of, stopped, stopped_or}
use Rattle.preflight_cert.specs.declared.uses.Uses.{Uses}

-- an operation keeps the rules
pub rules_kept : (operation : Operation) (state : State) → (next operation state).rules ≡ state.rules
rules_kept (restore which) state = by_place (saved_place which (length state.saved))
  where
    by_place : (place : Option ℕ) → (after_restoring place state).rules ≡ state.rules
    by_place None = refl
    by_place (Some place) = refl
rules_kept operation state = refl

-- an index whose deletion has no fault isn't in use, if held deletions aren't allowed
not_used : (taken use_ allowed : Bool) → allowed ≡ false → option_or (if taken then (if use_ && not allowed then Some HeldObject else None) else Some NoSuchHandle) None ≡ None → use_ ≡ false
not_used true true true core e = cc
not_used true true false core e = absurd (cc e)
not_used true false allowed core e = refl
not_used false use_ allowed core e = absurd (cc e)

-- then an operation without a fault isn't counted
count_kept : (operation : Operation) (state : State) (s : Surface) → is_print state.rules ≡ false → fault_of operation state s ≡ None
    → (next operation state).held_deletions ≡ state.held_deletions
count_kept (delete index) state s core none =
    let leave : allows_held_deletion state.rules ≡ false = rw core refl in
    let unused : is_in_use index state ≡ false = not_used (is_taken index state.slots) (is_in_use index state) (allows_held_deletion state.rules) leave none in
    rw unused refl
count_kept (restore which) state s core none = by_place (saved_place which (length state.saved))
  where
    by_place : (place : Option ℕ) → (after_restoring place state).held_deletions ≡ state.held_deletions
    by_place None = refl
    by_place (Some place) = refl
count_kept operation state s core none = refl

-- without a stop there is no fault, and no later stop
unstopped : (number : ℕ) (fault : Option RecordFault) (later : Option Stop) → stopped_or number fault later ≡ None → (fault ≡ None) × (later ≡ None)
unstopped number None later e = (refl, e)
unstopped number (Some fault) later e = absurd (cc e)

all_kept : (steps : List StepValue) (after : Option Stop) (state : State) (s : Surface) → is_print state.rules ≡ false → stopped steps after state s ≡ None
    → (state_after steps state).held_deletions ≡ state.held_deletions
all_kept [] after state s core none = refl
all_kept (step ∷ steps) after state s core none =
    let parts = unstopped step.number (fault_of step.operation state s) (stopped steps after (next step.operation state) s) none in
    let still : is_print (next step.operation state).rules ≡ false = ap (λ (rules : Rules). is_print rules) (rules_kept step.operation state) ∙ core in
    all_kept steps after (next step.operation state) s still parts.1 ∙ count_kept step.operation state s core parts.0

-- EMF+ stops no run
or_none : (stop : Option Stop) → option_or stop None ≡ stop
or_none None = refl
or_none (Some stop) = refl

ends : (content : Content) (state : State) → is_print state.rules ≡ false → end_of content state ≡ broken_after (length content.steps) content.fault
ends content state core = rw core (or_none (broken_after (length content.steps) content.fault))

pub core_laws : TextLaws → CoreLaws
core_laws laws = record {
  stops = λ content state s core. ap (λ (after : Option Stop). stopped content.steps after state s) (ends content state core);
  uses_nothing = λ content o s core none.
      let held : (state_after content.steps (start_of o)).held_deletions ≡ 0 = all_kept content.steps (end_of content (start_of o)) (start_of o) s core none in
      rw (held, core) refl;
  one_part = λ rules file o steps core opens. part_after steps (start_of o) (part_of_opened rules file o core opens) refl;
  text = λ rules c core. rw core refl;
  version = λ rules entries core. rw core refl;
  rules_back = λ rules c core. laws.rules_back rules c ∙ rw core refl;
}
