-- What is gathered record by record is what is gathered of all.
use Rattle.std.proofs.Common.{◌≡◌, ℕ, ◌+◌, List, ◌++◌, Option, Some, None, refl, ap, sym, subst, ◌∙◌, arith}
use Rattle.std.specs.List.{All}
use Rattle.std.proofs.lemmas.List.Elements.{All-append}
use Rattle.mapping.specs.Surface.{Surface}
use Rattle.draw_ops.specs.Content.{Content, nothing_left, with_step}
use Rattle.draw_ops.specs.OperationOf.{operation_of}
use Rattle.draw_ops.specs.StepOf.{step_value_of}
use Rattle.draw_ops.specs.declared.step.Step.{Step}
use Rattle.mapping.specs.BoxLaws.{BoxLaws}
use Rattle.mapping.specs.declared.geometry.Rect.{Rect}
use Rattle.mapping.specs.declared.nib.Nib.{Nib}
use Rattle.dc_stack.specs.Drawing.{Drawing, drawing_of, mark_points}
use Rattle.dc_stack.specs.Draws.{IsPlacedDraw, mark_of}
use Rattle.dc_stack.specs.MachineState.{HasNib, MachineState, drawing_with}
use Rattle.dc_stack.specs.declared.draw.Draw.{Draw}
use Rattle.dc_stack.specs.Next.{next}
use Rattle.dc_stack.specs.State.{State}
use Rattle.preflight_cert.specs.DraftOf.{Adds}
use Rattle.preflight_cert.specs.Drawings.{NumberedDrawing, drawing_then, drawings_of}
use Rattle.preflight_cert.specs.Gathered.{entry_if_drawn, bounding_box, least_budget, least_drawing_budget, least_entries, least_entry}
use Rattle.preflight_cert.specs.TextLaws.{IsEntry}
use Rattle.preflight_cert.specs.declared.draft.Draft.{Draft}
use Rattle.preflight_cert.specs.declared.certificate_entry.Entry.{Entry}
use Rattle.preflight_cert.specs.declared.version.Version.TheVariants.{Mpc2}
use Rattle.preflight_cert.proofs.DraftLemmas.{adds_none, adds_then}
use Rattle.preflight_cert.proofs.BoundingBoxLemmas.{least_is}

abbrev an_entry : ℕ → Rect → Nib → Entry
an_entry number bounds nib = record { number = number; bounds = bounds; nib = nib }

-- the entry of what is drawn has the least box around its points, and its nib
abbrev pub reported_entry : ℕ → Draw → Entry
reported_entry number draw = an_entry number draw.bounds draw.nib

pub reported_is_least : BoxLaws → (number : ℕ) (m : MachineState) (draw : Draw) → IsPlacedDraw m.surface m.painted draw → HasNib m.surface m draw → reported_entry number draw ≡ least_entry (record { number = number; drawing = drawing_with m draw }) m.surface
reported_is_least laws number m draw placed nib =
    let least = least_is laws draw.bounds (mark_points (mark_of m.painted draw)) placed.least in
    ap (λ (box : Rect). an_entry number box draw.nib) least ∙ ap (λ (n : Nib). an_entry number (bounding_box (mark_points (mark_of m.painted draw))) n) nib.is

pub entries_then : (number : ℕ) (drawing : Option Drawing) (later : List NumberedDrawing) (s : Surface) → least_entries (drawing_then number drawing later) s ≡ entry_if_drawn number drawing s ++ least_entries later s
entries_then number None later s = refl
entries_then number (Some drawing) later s = refl

pub budget_then : (number : ℕ) (drawing : Option Drawing) (later : List NumberedDrawing) (s : Surface) → least_budget (drawing_then number drawing later) s ≡ least_drawing_budget drawing s + least_budget later s
budget_then number None later s = omega arith
budget_then number (Some drawing) later s = refl

pub ruleset gathered = (entries_then, budget_then)

module _ (s : Surface) (old new : Content) (step : Step) (state after : State) (drawing : Option Drawing) (first : old ≡ with_step (step_value_of step) new) (stepped : after ≡ next (operation_of step.op) state) (drawn : drawing ≡ drawing_of (operation_of step.op) state) where
  -- the entries of the steps that are left are the first step's and those of all later ones
  split : least_entries (drawings_of old.steps state) s ≡ entry_if_drawn step.number drawing s ++ least_entries (drawings_of new.steps after) s
  split =
      rw (stepped, drawn)
      (ap (λ (content : Content). least_entries (drawings_of content.steps state) s) first
      ∙ entries_then step.number (drawing_of (operation_of step.op) state) (drawings_of new.steps (next (operation_of step.op) state)) s)

  -- where the step's entry and all later ones have numbers within their limits, all from that step on have
  pub step_fit : All (IsEntry Mpc2) (entry_if_drawn step.number drawing s) → All (IsEntry Mpc2) (least_entries (drawings_of new.steps after) s) → All (IsEntry Mpc2) (least_entries (drawings_of old.steps state) s)
  step_fit here later =
      rw split (All-append (IsEntry Mpc2) (entry_if_drawn step.number drawing s) (least_entries (drawings_of new.steps after) s) here later)

  -- what is added at the step, and then the entries of all later ones
  pub step_adds : (old_draft now later : Draft) → Adds old_draft now (entry_if_drawn step.number drawing s)
      → Adds now later (least_entries (drawings_of new.steps after) s) → Adds old_draft later (least_entries (drawings_of old.steps state) s)
  step_adds old_draft now later here rest =
      rw split (adds_then old_draft now later (entry_if_drawn step.number drawing s) (least_entries (drawings_of new.steps after) s) here rest)

-- where nothing is left, nothing is added
pub adds_ended : (draft : Draft) (left : Content) (state : State) (s : Surface) → left ≡ nothing_left → Adds draft draft (least_entries (drawings_of left.steps state) s)
adds_ended draft left state s e =
    subst (λ (content : Content). Adds draft draft (least_entries (drawings_of content.steps state) s)) (sym e) (adds_none draft)
