-- Files that contain EMF+ and draw nothing by their own records.
use Rattle.std.specs.Prelude.{Bool, true, false, ◌&&◌, ◌||◌, not, List, [], ◌∷◌}
use Rattle.draw_ops.specs.Content.{StepValue}
use Rattle.draw_ops.specs.NoteKinds.{is_noted}
use Rattle.draw_ops.specs.RuleSets.{is_print}
use Rattle.draw_ops.specs.declared.note.Note.TheVariants.{EmfPlus as EmfPlusNote}
use Rattle.draw_ops.specs.declared.rules.Rules.{Rules}
use Rattle.dc_stack.specs.State.{State}
use Rattle.preflight_cert.specs.Drawings.{NumberedDrawing, drawings_of}
use Rattle.preflight_cert.specs.declared.emf_plus.EmfPlus.{EmfPlus}

-- some record contains EMF+, which only comments of EMF files do ([MS-EMF] 2.3.3.2)
abbrev pub have_emf_plus : List StepValue → Bool
have_emf_plus [] = false
have_emf_plus (step ∷ steps) = is_noted step.notes EmfPlusNote || have_emf_plus steps

-- there is a drawing
abbrev pub is_drawn : List NumberedDrawing → Bool
is_drawn [] = false
is_drawn (drawing ∷ later) = true

-- some record draws
abbrev pub have_drawing : List StepValue → State → Bool
have_drawing steps state = is_drawn (drawings_of steps state)

-- records contain EMF+ and don't draw, which only the print profile looks at
abbrev pub is_emf_plus_alone : Rules → EmfPlus → Bool
is_emf_plus_alone rules found = is_print rules && (found.is_contained && not found.is_drawn)

-- whether records contain EMF+, and whether they draw
abbrev pub emf_plus_of : List StepValue → State → EmfPlus
emf_plus_of steps state = record { is_contained = have_emf_plus steps; is_drawn = have_drawing steps state }

-- records contain EMF+ and don't draw, under the rules of a state
abbrev pub uses_emf_plus : List StepValue → State → Bool
uses_emf_plus steps state = is_emf_plus_alone state.rules (emf_plus_of steps state)
