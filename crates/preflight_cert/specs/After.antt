-- The state, the greatest needs and the number of notes after some steps, on any surface.
use Rattle.std.specs.Prelude.{ℕ, Bool, if◌then◌else◌, List, [], ◌∷◌}
use Rattle.draw_ops.specs.Content.{Content, StepValue}
use Rattle.draw_ops.specs.NoteCounts.{added_notes}
use Rattle.dc_stack.specs.Needs.{greater_needs, needs_of, no_needs}
use Rattle.dc_stack.specs.Next.{next}
use Rattle.dc_stack.specs.State.{State, start_of}
use Rattle.dc_stack.specs.declared.needs.Needs.{Needs}
use Rattle.meta_headers.specs.Headers.{OpenedValue}
use Rattle.preflight_cert.specs.EmfPlus.{uses_emf_plus}
use Rattle.preflight_cert.specs.declared.uses.Uses.{Uses}

-- the state after the steps
abbrev pub state_after : List StepValue → State → State
state_after [] state = state
state_after (step ∷ steps) state = state_after steps (next step.operation state)

-- the greatest needs of the steps and of what came before them
abbrev pub needs_after : List StepValue → State → Needs → Needs
needs_after [] state needs = needs
needs_after (step ∷ steps) state needs = needs_after steps (next step.operation state) (greater_needs needs (needs_of step.operation state))

-- the number of notes of each kind, of the steps and of what came before them
abbrev pub notes_after : List StepValue → List ℕ → List ℕ
notes_after [] counts = counts
notes_after (step ∷ steps) counts = notes_after steps (added_notes counts step.notes)

-- the needs of a file's records, from the file's start on
abbrev pub file_needs : Content → OpenedValue → Needs
file_needs content o = needs_after content.steps (start_of o) no_needs

-- the number of notes of each kind, of a file's headers and records
abbrev pub file_notes : Content → OpenedValue → List ℕ
file_notes content o = notes_after content.steps o.notes

-- so many deletions of selected objects, and EMF+ without a drawing once or not at all
abbrev pub counted_uses : ℕ → Bool → Uses
counted_uses deletions is_alone = record { held_deletion = deletions; emf_plus = if is_alone then 1 else 0 }

-- how often the steps use what rules can allow
abbrev pub uses_after : List StepValue → State → Uses
uses_after steps state = counted_uses (state_after steps state).held_deletions (uses_emf_plus steps state)

-- the same for a file's records
abbrev pub file_uses : Content → OpenedValue → Uses
file_uses content o = uses_after content.steps (start_of o)
