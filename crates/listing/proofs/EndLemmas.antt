-- The end record: it does nothing, and EMF+ without a drawing is told in it.
use Rattle.std.proofs.Common.{◌≡◌, ℕ, ◌-◌, Bool, true, false, ◌&&◌, ◌||◌, not, if◌then◌else◌, List, [], ◌∷◌, Option, Some, None, is_some, Ok, refl, ap, ◌∙◌}
use Rattle.draw_ops.specs.Content.{StepValue}
use Rattle.draw_ops.specs.Meaning.{end_notes, step_decoded, unnoted}
use Rattle.draw_ops.specs.NoteCounts.{no_notes}
use Rattle.draw_ops.specs.NoteKinds.{is_noted}
use Rattle.draw_ops.specs.Operation.{no_effect}
use Rattle.draw_ops.specs.Records.{Record}
use Rattle.draw_ops.specs.RuleSets.{allows_emf_plus}
use Rattle.draw_ops.specs.declared.note.Note.TheVariants.{EmfPlus as EmfPlusNote}
use Rattle.draw_ops.specs.declared.record_fault.RecordFault.{RecordFault}
use Rattle.draw_ops.specs.declared.record_fault.RecordFault.TheVariants.{EmfPlusAlone}
use Rattle.draw_ops.specs.declared.rules.Rules.{Rules}
use Rattle.emf_records.specs.Emf.{emf_record, emf_record_if}
use Rattle.emf_records.specs.Kinds.{emf_entry_of}
use Rattle.wmf_records.specs.Wmf.{wmf_record, wmf_record_if}
use Rattle.wmf_records.specs.Kinds.{wmf_entry_of}
use Rattle.meta_headers.specs.Opening.{framing_of, meaning_of}
use Rattle.meta_headers.specs.declared.opened.FileFormat.{FileFormat}
use Rattle.meta_headers.specs.declared.opened.FileFormat.TheVariants.{Emf, Placeable, Plain}
use Rattle.dc_stack.specs.Drawing.{Drawing, drawing_of}
use Rattle.dc_stack.specs.Next.{next}
use Rattle.dc_stack.specs.State.{State}
use Rattle.mapping.specs.Surface.{Surface}
use Rattle.preflight_cert.specs.Drawings.{NumberedDrawing, drawing_then, drawings_of}
use Rattle.preflight_cert.specs.EmfPlus.{emf_plus_of, have_drawing, have_emf_plus, is_drawn, is_emf_plus_alone}
use Rattle.preflight_cert.specs.Stop.{Stop, emf_plus_stop, stop_at}
use Rattle.preflight_cert.specs.declared.emf_plus.EmfPlus.{EmfPlus}
use Rattle.listing.specs.DryRunState.{end_fault, fault_met, found_with}

-- the end record of each format has no effect and no notes of its own
abbrev with_kind : ℕ → Record → Record
with_kind kind r = record { kind = kind; bytes = r.bytes }

pub end_meaning : (format : FileFormat) (n : ℕ) (r : Record) → r.kind ≡ (framing_of format).end_kind → meaning_of format n r ≡ Ok (unnoted no_effect)
unfolding emf_record wmf_record
end_meaning Placeable n r e = ap (λ (kind : ℕ). wmf_record_if (wmf_entry_of kind) (with_kind kind r)) e
end_meaning Plain n r e = ap (λ (kind : ℕ). wmf_record_if (wmf_entry_of kind) (with_kind kind r)) e
end_meaning Emf n r e = ap (λ (kind : ℕ). emf_record_if (emf_entry_of kind) n (with_kind kind r)) e

-- the end record's step, whatever lies behind it
abbrev pub end_step : Bool → List ℕ → ℕ → StepValue
end_step is_last after n = step_decoded is_last after n (unnoted no_effect)

not_emf_plus : (is_last : Bool) (after : List ℕ) → is_noted (end_notes is_last after no_notes) EmfPlusNote ≡ false
not_emf_plus false after = refl
not_emf_plus true [] = refl
not_emf_plus true (byte ∷ bytes) = refl

or_false : (a : Bool) → (a || false) ≡ a
or_false true = refl
or_false false = refl

or_assoc : (a b c : Bool) → (a || (b || c)) ≡ ((a || b) || c)
or_assoc true b c = refl
or_assoc false b c = refl

-- what was found in records, and what others have
abbrev pub joined : EmfPlus → EmfPlus → EmfPlus
joined found more = record { is_contained = found.is_contained || more.is_contained; is_drawn = found.is_drawn || more.is_drawn }

abbrev both : Bool → Bool → EmfPlus
both contained drawn = record { is_contained = contained; is_drawn = drawn }

pub joined_none : (found : EmfPlus) (state : State) → joined found (emf_plus_of [] state) ≡ found
joined_none found state = ap (λ (b : Bool). both b (found.is_drawn || false)) (or_false found.is_contained) ∙ ap (both found.is_contained) (or_false found.is_drawn)

pub none_joined : (more : EmfPlus) → joined (both false false) more ≡ more
none_joined more = refl

drawn_then : (number : ℕ) (drawing : Option Drawing) (later : List NumberedDrawing) → is_drawn (drawing_then number drawing later) ≡ (is_some drawing || is_drawn later)
drawn_then number None later = refl
drawn_then number (Some drawing) later = refl

pub joined_then : (found : EmfPlus) (step : StepValue) (steps : List StepValue) (state : State)
    → joined found (emf_plus_of (step ∷ steps) state) ≡ joined (found_with found step state) (emf_plus_of steps (next step.operation state))
joined_then found step steps state =
    let later = next step.operation state in
    ap (λ (b : Bool). both b (found.is_drawn || have_drawing (step ∷ steps) state)) (or_assoc found.is_contained (is_noted step.notes EmfPlusNote) (have_emf_plus steps))
    ∙ ap (both ((found.is_contained || is_noted step.notes EmfPlusNote) || have_emf_plus steps))
    (ap (λ (b : Bool). found.is_drawn || b) (drawn_then step.number (drawing_of step.operation state) (drawings_of steps later))
    ∙ or_assoc found.is_drawn (is_some (drawing_of step.operation state)) (have_drawing steps later))

-- the end record changes nothing of it
pub found_at_end : (found : EmfPlus) (is_last : Bool) (after : List ℕ) (n : ℕ) (state : State) → found_with found (end_step is_last after n) state ≡ found
found_at_end found is_last after n state =
    ap (λ (b : Bool). both (found.is_contained || b) (found.is_drawn || false)) (not_emf_plus is_last after)
    ∙ joined_none found state

-- and has no fault of its own
pub none_met : (is_last : Bool) (after : List ℕ) (n : ℕ) (state : State) (s : Surface) → fault_met (end_step is_last after n).operation state s ≡ None
none_met is_last after n state s = refl

-- where records stop because they contain EMF+ and don't draw
pub record IsAlone (rules : Rules) (found : EmfPlus) (total number : ℕ) (fault : RecordFault) : Type 0 where
  pub alone : (is_emf_plus_alone rules found && not (allows_emf_plus rules)) ≡ true
  pub last : total - 1 ≡ number
  pub same : EmfPlusAlone ≡ fault

alone_by : (test : Bool) (total number : ℕ) (fault : RecordFault) → (if test then Some (stop_at (total - 1) EmfPlusAlone) else None) ≡ Some (stop_at number fault)
    → (test ≡ true) × ((total - 1 ≡ number) × (EmfPlusAlone ≡ fault))
alone_by false total number fault e = cc
alone_by true total number fault e =
    let same : stop_at (total - 1) EmfPlusAlone ≡ stop_at number fault = cc in
    (refl, (ap (λ (stop : Stop). stop.number) same, ap (λ (stop : Stop). stop.fault) same))

pub is_alone : (rules : Rules) (found : EmfPlus) (total number : ℕ) (fault : RecordFault) → emf_plus_stop rules (is_emf_plus_alone rules found) total ≡ Some (stop_at number fault) → IsAlone rules found total number fault
is_alone rules found total number fault e =
    let parts = alone_by (is_emf_plus_alone rules found && not (allows_emf_plus rules)) total number fault e in
    record { alone = parts.0; last = parts.1.0; same = parts.1.1 }

-- then the end record is told to be refused by it
pub told_at_end : (rules : Rules) (found : EmfPlus) (is_last : Bool) → is_last ≡ true → (is_emf_plus_alone rules found && not (allows_emf_plus rules)) ≡ true
    → end_fault is_last rules found ≡ Some EmfPlusAlone
told_at_end rules found is_last e alone = rw (e, alone) refl
