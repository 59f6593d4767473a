-- When a drawing may be painted, and how one layer of it changes a canvas.
use Rattle.std.specs.Prelude.{◌≡◌, ◌≤◌, Bool, true, false, List}
use Rattle.mapping.specs.Surface.{Surface}
use Rattle.canvas.specs.CanvasState.{CanvasState}
use Rattle.dc_stack.specs.Drawing.{mark_edges, tools_of}
use Rattle.dc_stack.specs.Draws.{IsPlacedDraw, figures_drawn, mark_of}
use Rattle.dc_stack.specs.MachineState.{HasNib, MachineState, drawing_with}
use Rattle.dc_stack.specs.declared.draw.Draw.{Draw}
use Rattle.dc_stack.specs.declared.draw.Mark.{Mark}
use Rattle.dc_stack.specs.declared.draw.Mark.TheVariants.{Blit, Dot, Figures, Line, Rectangle}
use Rattle.dc_stack.specs.declared.draw.Painting.TheVariants.{Fill, Stroke, StrokeAndFill}
use Rattle.preflight_cert.specs.Layer.{Layer, fills_of, layers_of, strokes_of}
use Rattle.span_fill.specs.declared.line.Line.{Line as TheLine}
use Rattle.painting.specs.Counts.{CountsLayer}
use Rattle.painting.specs.Drawn.{DrawsLayers, HoldsRows, SameRows}
use Rattle.painting.specs.FigureEnds.{landed_lines}
use Rattle.painting.specs.declared.list_lines.Ends.TheVariants.{Closed}
use Rattle.painting.specs.declared.scratch.DrawingScratch.{DrawingScratch}

-- a drawing may be painted: the canvas has rows of the machine's surface, the drawing lands within the limits, and the
-- row buffer can take its lines
pub record MayDraw (drawn : Draw) (machine : MachineState) (scratch : DrawingScratch) (canvas : CanvasState) : Type 0 where
  pub held : HoldsRows canvas machine.surface
  pub placed : IsPlacedDraw machine.surface machine.painted drawn
  pub nib : HasNib machine.surface machine drawn
  pub lines : mark_edges (mark_of machine.painted drawn) ≤ scratch.rows.capacity

-- layers that write each pixel at most once were drawn, and the canvas has the same rows as before
pub record DrawsLayer (layers : List Layer) (s : Surface) (old new : CanvasState) : Type 0 where
  pub drawn : DrawsLayers layers s old new
  pub rows : SameRows old new
  pub few : CountsLayer old new

-- the lines are those of a mark's figures, all of them closed
abbrev pub HasClosedLines : Mark → MachineState → List TheLine → Type 0
HasClosedLines (Dot at colour) machine lines = ⊥
HasClosedLines (Line from to) machine lines = ⊥
HasClosedLines (Figures painting points) machine lines = lines ≡ landed_lines machine.surface Closed (figures_drawn machine.painted points)
HasClosedLines (Rectangle first second edges) machine lines = ⊥
HasClosedLines (Blit blit) machine lines = ⊥

-- a mark strokes figures that are all closed: those that it fills
abbrev pub strokes_closed_figures : Mark → Bool
strokes_closed_figures (Dot at colour) = false
strokes_closed_figures (Line from to) = false
strokes_closed_figures (Figures Fill points) = false
strokes_closed_figures (Figures Stroke points) = false
strokes_closed_figures (Figures StrokeAndFill points) = true
strokes_closed_figures (Rectangle first second edges) = false
strokes_closed_figures (Blit blit) = false

-- a drawing was filled with the machine's current objects and modes
abbrev pub Fills : Draw → MachineState → CanvasState → CanvasState → Type 0
Fills drawn machine old new = DrawsLayer (fills_of (mark_of machine.painted drawn) (tools_of machine.state.dc)) machine.surface old new

-- the outline of a drawing was stroked with the machine's current objects and modes
abbrev pub Strokes : Draw → MachineState → CanvasState → CanvasState → Type 0
Strokes drawn machine old new = DrawsLayer (strokes_of (mark_of machine.painted drawn) (tools_of machine.state.dc)) machine.surface old new

-- a drawing was painted whole
abbrev pub Draws : Draw → MachineState → CanvasState → CanvasState → Type 0
Draws drawn machine old new = DrawsLayers (layers_of (drawing_with machine drawn)) machine.surface old new
