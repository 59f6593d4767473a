-- Lines that a row buffer has taken for a fill, and that are stroked next.
use Rattle.std.proofs.Common.{◌≡◌, ◌∙◌, ℕ, true, List, [], ap, refl, sym}
use Rattle.std.proofs.lemmas.Bool.{true≢false}
use Rattle.mapping.specs.Surface.{Surface}
use Rattle.mapping.specs.declared.nib.Nib.{Nib}
use Rattle.dc_stack.specs.Drawing.{MarkValue, Tools, is_stroked, mark_points}
use Rattle.dc_stack.specs.Draws.{figures_drawn, mark_value_of}
use Rattle.dc_stack.specs.MachineState.{MachineState}
use Rattle.dc_stack.specs.declared.draw.Mark.{Mark}
use Rattle.dc_stack.specs.declared.draw.Mark.TheVariants.{Blit, Dot, Figures, Line, Rectangle}
use Rattle.dc_stack.specs.declared.draw.Painting.TheVariants.{Fill, Stroke, StrokeAndFill}
use Rattle.dc_stack.specs.declared.piece.Piece.{Piece}
use Rattle.preflight_cert.specs.FigureLines.{all_closed}
use Rattle.preflight_cert.specs.Layer.{stroked, strokes_of}
use Rattle.preflight_cert.specs.StrokedOutline.{Outline, along, outline_lines, outline_points}
use Rattle.span_fill.specs.WideStrokes.{in_wide_stroke}
use Rattle.span_fill.specs.declared.line.Line.{Line as TheLine}
use Rattle.painting.specs.Draws.{HasClosedLines, strokes_closed_figures}
use Rattle.painting.specs.declared.list_lines.Ends.TheVariants.{Closed}
use Rattle.painting.proofs.PaintedFigureLemmas.{stroke_reported, stroked_lines, strokes_figures}

-- the lines are those of an outline that a mark strokes
pub record IsStrokeOf (mark : MarkValue) (s : Surface) (outline : Outline) (lines : List TheLine) : Type 0 where
  pub are : lines ≡ outline_lines outline s
  pub layers : (tools : Tools) → strokes_of mark tools ≡ stroked outline tools
  pub points : outline_points outline ≡ mark_points mark
  pub strokes : is_stroked mark ≡ true

-- the outline of the lines of a mark that is filled and stroked
abbrev pub taken_outline : List Piece → Mark → Outline
taken_outline pieces (Dot at colour) = along []
taken_outline pieces (Line from to) = along []
taken_outline pieces (Figures painting points) = along (all_closed (figures_drawn pieces points))
taken_outline pieces (Rectangle first second edges) = along []
taken_outline pieces (Blit blit) = along []

pub taken_stroke : (machine : MachineState) (mark : Mark) (lines : List TheLine) → strokes_closed_figures mark ≡ true → HasClosedLines mark machine lines → IsStrokeOf (mark_value_of machine.painted mark) machine.surface (taken_outline machine.painted mark) lines
taken_stroke machine (Dot at colour) lines closed taken = absurd taken
taken_stroke machine (Line from to) lines closed taken = absurd taken
taken_stroke machine (Figures Fill points) lines closed taken = absurd (true≢false (sym closed))
taken_stroke machine (Figures Stroke points) lines closed taken = absurd (true≢false (sym closed))
taken_stroke machine (Figures StrokeAndFill points) lines closed taken =
    let figures = figures_drawn machine.painted points in
    record {
      are = taken ∙ stroked_lines machine.surface Closed figures;
      layers = λ tools. strokes_figures StrokeAndFill Closed figures tools refl;
      points = stroke_reported Closed figures;
      strokes = refl;
    }
taken_stroke machine (Rectangle first second edges) lines closed taken = absurd taken
taken_stroke machine (Blit blit) lines closed taken = absurd taken

-- equal nibs cover the same pixels along equal lines
pub same_stroke : (nib other : Nib) (lines others : List TheLine) → nib ≡ other → lines ≡ others → (x y : ℕ) → in_wide_stroke nib lines x y ≡ in_wide_stroke other others x y
same_stroke nib other lines others n l x y = ap (λ (m : Nib). in_wide_stroke m lines x y) n ∙ ap (λ (ls : List TheLine). in_wide_stroke other ls x y) l
