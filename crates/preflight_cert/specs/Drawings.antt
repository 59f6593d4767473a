-- The drawings of a run, a list that doesn't depend on a surface.
use Rattle.std.specs.Prelude.{ℕ, List, [], ◌∷◌, Option, Some, None}
use Rattle.std.specs.Option.{option_map}
use Rattle.draw_ops.specs.Content.{StepValue}
use Rattle.dc_stack.specs.Drawing.{Drawing, drawing_of}
use Rattle.dc_stack.specs.MachineState.{MachineState, drawing_with}
use Rattle.dc_stack.specs.Next.{next}
use Rattle.dc_stack.specs.State.{State}
use Rattle.dc_stack.specs.declared.draw.Draw.{Draw}

-- a drawing, and the number of its record
pub record NumberedDrawing : Type 0 where
  pub number : ℕ
  pub drawing : Drawing

-- the drawing of a machine's step, if it draws, with the current tools
abbrev pub drawn_by : MachineState → Option Draw → Option Drawing
drawn_by m draw = option_map (drawing_with m) draw

-- the drawing of the record with this number, if there is one, followed by the later ones
abbrev pub drawing_then : ℕ → Option Drawing → List NumberedDrawing → List NumberedDrawing
drawing_then number None later = later
drawing_then number (Some drawing) later = record { number = number; drawing = drawing } ∷ later

-- the drawings of the steps, each in the state before its step
abbrev pub drawings_of : List StepValue → State → List NumberedDrawing
drawings_of [] state = []
drawings_of (step ∷ steps) state = drawing_then step.number (drawing_of step.operation state) (drawings_of steps (next step.operation state))
