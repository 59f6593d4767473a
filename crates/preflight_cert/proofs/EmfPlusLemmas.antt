-- Whether records contain EMF+ and draw, record by record.
use Rattle.std.proofs.Common.{◌≡◌, ℕ, Bool, true, false, List, length, Option, Some, None, refl, ap, sym, ◌∙◌}
use Rattle.std.specs.Prelude.{◌||◌, is_some}
use Rattle.std.specs.Option.{option_map, option_or}
use Rattle.draw_ops.specs.Content.{Content, nothing_left, with_step}
use Rattle.draw_ops.specs.NoteKinds.{is_noted}
use Rattle.draw_ops.specs.OperationOf.{operation_of}
use Rattle.draw_ops.specs.StepOf.{step_value_of}
use Rattle.draw_ops.specs.declared.note.Note.TheVariants.{EmfPlus as EmfPlusNote}
use Rattle.draw_ops.specs.declared.record_fault.RecordFault.{RecordFault}
use Rattle.draw_ops.specs.declared.rules.Rules.{Rules}
use Rattle.draw_ops.specs.declared.step.Step.{Step}
use Rattle.dc_stack.specs.Drawing.{Drawing, drawing_of}
use Rattle.dc_stack.specs.MachineState.{MachineState}
use Rattle.dc_stack.specs.Next.{next}
use Rattle.dc_stack.specs.State.{State}
use Rattle.dc_stack.specs.declared.draw.Draw.{Draw}
use Rattle.preflight_cert.specs.After.{counted_uses, state_after, uses_after}
use Rattle.preflight_cert.specs.Drawings.{NumberedDrawing, drawing_then, drawn_by}
use Rattle.preflight_cert.specs.EmfPlus.{emf_plus_of, have_drawing, have_emf_plus, is_drawn, is_emf_plus_alone, uses_emf_plus}
use Rattle.preflight_cert.specs.Stop.{broken_after, emf_plus_stop, end_of}
use Rattle.preflight_cert.specs.declared.emf_plus.EmfPlus.{EmfPlus}
use Rattle.preflight_cert.specs.declared.uses.Uses.{Uses}

or_assoc : (a b c : Bool) → (a || (b || c)) ≡ ((a || b) || c)
or_assoc true b c = refl
or_assoc false b c = refl

or_false : (a : Bool) → (a || false) ≡ a
or_false true = refl
or_false false = refl

-- a record draws, or a later one does
drawn_then : (number : ℕ) (drawing : Option Drawing) (later : List NumberedDrawing) → is_drawn (drawing_then number drawing later) ≡ (is_some drawing || is_drawn later)
drawn_then number None later = refl
drawn_then number (Some drawing) later = refl

some_drawn : (m : MachineState) (draw : Option Draw) → is_some (drawn_by m draw) ≡ is_some draw
some_drawn m None = refl
some_drawn m (Some draw) = refl

-- what was found before the records that are left, and what they have
pub record IsFound (whole left : Content) (start state : State) (found : EmfPlus) : Type 0 where
  pub contained : have_emf_plus whole.steps ≡ (found.is_contained || have_emf_plus left.steps)
  pub drawn : have_drawing whole.steps start ≡ (found.is_drawn || have_drawing left.steps state)

-- one record more was played
pub found_then :
    (whole left rest : Content) (start : State) (m new : MachineState) (step : Step) (draw : Option Draw) (found more : EmfPlus)
    → IsFound whole left start m.state found → left ≡ with_step (step_value_of step) rest → new.state ≡ next (operation_of step.op) m.state
    → drawn_by new draw ≡ drawing_of (operation_of step.op) m.state
    → more.is_contained ≡ (found.is_contained || is_noted (step_value_of step).notes EmfPlusNote) → more.is_drawn ≡ (found.is_drawn || is_some draw)
    → IsFound whole rest start new.state more
found_then whole left rest start m new step draw found more h first stepped drawn contained draws =
    let noted = is_noted (step_value_of step).notes EmfPlusNote in
    let here : is_some (drawing_of (operation_of step.op) m.state) ≡ is_some draw = ap is_some (sym drawn) ∙ some_drawn new draw in
    record {
      contained = h.contained ∙ ap (λ (k : Content). found.is_contained || have_emf_plus k.steps) first
          ∙ or_assoc found.is_contained noted (have_emf_plus rest.steps) ∙ ap (λ (b : Bool). b || have_emf_plus rest.steps) (sym contained);
      drawn = h.drawn ∙ ap (λ (k : Content). found.is_drawn || have_drawing k.steps m.state) first
          ∙ ap (λ (b : Bool). found.is_drawn || b)
          (drawn_then step.number (drawing_of (operation_of step.op) m.state) _
          ∙ ap (λ (b : Bool). b || have_drawing rest.steps (next (operation_of step.op) m.state)) here
          ∙ ap (λ (s : State). is_some draw || have_drawing rest.steps s) (sym stepped))
          ∙ or_assoc found.is_drawn (is_some draw) (have_drawing rest.steps new.state)
          ∙ ap (λ (b : Bool). b || have_drawing rest.steps new.state) (sym draws);
    }

abbrev of_both : Bool → Bool → EmfPlus
of_both contained drawn = record { is_contained = contained; is_drawn = drawn }

-- where no record is left, that is what the whole has
pub found_all : (whole left : Content) (start state : State) (found : EmfPlus) → IsFound whole left start state found → left ≡ nothing_left → emf_plus_of whole.steps start ≡ found
found_all whole left start state found h none =
    let contained = h.contained ∙ ap (λ (k : Content). found.is_contained || have_emf_plus k.steps) none ∙ or_false found.is_contained in
    let drawn = h.drawn ∙ ap (λ (k : Content). found.is_drawn || have_drawing k.steps state) none ∙ or_false found.is_drawn in
    ap (λ (b : Bool). of_both b (have_drawing whole.steps start)) contained ∙ ap (of_both found.is_contained) drawn

-- and the end of the whole
pub end_by_found :
    (whole : Content) (start : State) (rules : Rules) (found : EmfPlus) (count : ℕ) → whole.fault ≡ None → length whole.steps ≡ count → start.rules ≡ rules
    → emf_plus_of whole.steps start ≡ found → end_of whole start ≡ emf_plus_stop rules (is_emf_plus_alone rules found) count
end_by_found whole start rules found count fault size same all =
    let n = length whole.steps in
    ap (λ (f : Option RecordFault). option_or (broken_after n f) (emf_plus_stop start.rules (uses_emf_plus whole.steps start) n)) fault
    ∙ ap (λ (r : Rules). emf_plus_stop r (is_emf_plus_alone r (emf_plus_of whole.steps start)) n) same
    ∙ ap (λ (f : EmfPlus). emf_plus_stop rules (is_emf_plus_alone rules f) n) all
    ∙ ap (emf_plus_stop rules (is_emf_plus_alone rules found)) size

pub uses_by_found :
    (whole : Content) (start new : State) (rules : Rules) (found : EmfPlus) (uses : Uses) → start.rules ≡ rules → emf_plus_of whole.steps start ≡ found
    → state_after whole.steps start ≡ new → uses ≡ counted_uses new.held_deletions (is_emf_plus_alone rules found) → uses ≡ uses_after whole.steps start
uses_by_found whole start new rules found uses same all after e =
    e ∙ sym (ap (λ (s : State). counted_uses s.held_deletions (is_emf_plus_alone start.rules (emf_plus_of whole.steps start))) after
    ∙ ap (λ (f : EmfPlus). counted_uses new.held_deletions (is_emf_plus_alone start.rules f)) all
    ∙ ap (λ (r : Rules). counted_uses new.held_deletions (is_emf_plus_alone r found)) same)
