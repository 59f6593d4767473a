use Rattle.std.proofs.Common.{◌≡◌, ◌++◌, List, [], inl, inr, arith, subst, ap, refl, sym, ◌∙◌}
use Rattle.dc_stack.specs.Drawing.{tools_of}
use Rattle.dc_stack.specs.Draws.{mark_of}
use Rattle.dc_stack.specs.State.{DcValue}
use Rattle.preflight_cert.specs.Layer.{Layer, fills_of, strokes_of, plain_layers_of}
use Rattle.painting.specs.Drawn.{DrawsLayers}
use Rattle.painting.proofs.LandingLemmas.{fits_there, lands_there, two_land}
use Rattle.painting.proofs.BlitLemmas.{blit_drawn}
use Rattle.painting.proofs.DrawingLemmas.{clip_placed, dot_drawn, drawn_in_turn}
use Rattle.painting.proofs.drawing.paint.Goals as goal

pub returns-in-Dot-clause-drawn : goal.returns-in-Dot-clause-drawn
returns-in-Dot-clause-drawn g c =
    let s = c.args.machine.now.surface in
    let state = c.args.machine.now.state.dc in
    let at = c.in-Dot.at in
    let lands = lands_there c.place-place.result s at c.at.result c.place-place.ensures c.at.ensures in
    let dc = c.dc-dc.result.now in
    let clip = clip_placed s dc.clip dc state refl c.dc-dc.ensures.value c.dc-dc.ensures.placed in
    let drawn = dot_drawn c.writing_law.ensures s c.args.canvas.now c.put.new.canvas c.whole_law.ensures.whole c.requires.may.held at c.at.result c.in-Dot.colour dc.clip (tools_of state) lands clip c.put.ensures.pixels in
    rw c.in-Dot.is drawn

pub blit-requires-clause-near : goal.blit-requires-clause-near
blit-requires-clause-near g c =
    let s = c.args.machine.now.surface in
    let both = two_land s c.in-Blit.asked.first c.in-Blit.asked.second (rw c.in-Blit.is at c.requires.may.placed.within) in
    fits_there c.place-place.result s c.in-Blit.asked.first c.place-place.ensures both.0

pub blit-requires-clause-far : goal.blit-requires-clause-far
blit-requires-clause-far g c =
    let s = c.args.machine.now.surface in
    let both = two_land s c.in-Blit.asked.first c.in-Blit.asked.second (rw c.in-Blit.is at c.requires.may.placed.within) in
    fits_there c.place-place.result s c.in-Blit.asked.second c.place-place.ensures both.1

pub returns-in-Blit-clause-drawn : goal.returns-in-Blit-clause-drawn
returns-in-Blit-clause-drawn g c =
    let s = c.args.machine.now.surface in
    let state = c.args.machine.now.state.dc in
    let dc = c.dc-dc.result.now in
    let value = c.dc-dc.ensures.value in
    let brush = ap (λ (d : DcValue). d.selected.brush.object) value in
    let modes = ap (λ (d : DcValue). d.modes) value in
    let clip = clip_placed s dc.clip dc state refl value c.dc-dc.ensures.placed in
    let drawn = blit_drawn c.writing_law.ensures s c.args.canvas.now c.blit.new.canvas c.whole_law.ensures.whole c.requires.may.held dc (tools_of state) c.in-Blit.asked brush modes clip (rw c.place-place.ensures at c.blit.ensures.pixels) in
    rw c.in-Blit.is drawn

-- a line has no inside
pub returns-in-Line : goal.returns-in-Line
returns-in-Line g c =
    let machine = c.args.machine.now in
    let mark = mark_of machine.painted c.args.drawn in
    let tools = tools_of machine.state.dc in
    let empty : fills_of mark tools ≡ [] = rw c.in-Line.is refl in
    let alone : plain_layers_of mark tools ≡ [] = rw c.in-Line.is refl in
    let stroked = c.stroke.ensures.drawn in
    let few = stroked.few in
    let drawn = subst (λ (plain : List Layer). DrawsLayers (plain ++ strokes_of mark tools) machine.surface c.args.canvas.now c.stroke.new.canvas) (sym alone) stroked.drawn in
    record {
      drawn = subst (λ (fills : List Layer). DrawsLayers (fills ++ (plain_layers_of mark tools ++ strokes_of mark tools)) machine.surface c.args.canvas.now c.stroke.new.canvas) (sym empty) drawn;
      rows = stroked.rows;
      few = omega (arith, few);
      capacity = c.stroke.ensures.capacity;
    }

pub returns-in-Figures : goal.returns-in-Figures
returns-in-Figures g c =
    let machine = c.args.machine.now in
    let mark = mark_of machine.painted c.args.drawn in
    let tools = tools_of machine.state.dc in
    let alone : plain_layers_of mark tools ≡ [] = elim c.in-Figures.is as (λ w. plain_layers_of mark tools ≡ []) [
      | inl figures ↦ rw figures.2 refl
      | inr rectangle ↦ rw rectangle.3 refl
    ] in
    let filled = c.fill-are_taken.ensures.drawn in
    let stroked = c.stroke-in-Figures.ensures.drawn in
    let fill_few = filled.few in
    let stroke_few = stroked.few in
    record {
      drawn = subst (λ (plain : List Layer). DrawsLayers (fills_of mark tools ++ (plain ++ strokes_of mark tools)) machine.surface c.args.canvas.now c.stroke-in-Figures.new.canvas) (sym alone)
          (drawn_in_turn (fills_of mark tools) (strokes_of mark tools) machine.surface c.args.canvas.now c.fill-are_taken.new.canvas c.stroke-in-Figures.new.canvas filled.rows filled.drawn stroked.drawn);
      rows = record {
        width = stroked.rows.width ∙ filled.rows.width;
        first = stroked.rows.first ∙ filled.rows.first;
        rows = stroked.rows.rows ∙ filled.rows.rows;
        most = stroked.rows.most ∙ filled.rows.most;
      };
      few = omega (arith, fill_few, stroke_few);
      capacity = c.stroke-in-Figures.ensures.capacity ∙ c.fill-are_taken.ensures.capacity;
    }
