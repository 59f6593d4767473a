use Rattle.std.proofs.Common.{◌≡◌, ℕ, ap, is_some, refl, ◌∙◌}
use Rattle.mapping.specs.Colours.{black_colour}
use Rattle.draw_ops.specs.Objects.{brush_value_of}
use Rattle.draw_ops.specs.declared.ternary_op.TernaryOp.{TernaryOp}
use Rattle.dc_stack.specs.State.{DcValue}
use Rattle.dc_stack.specs.declared.modes.Modes.{Modes}
use Rattle.raster_ops.specs.Paints.{brush_paint}
use Rattle.raster_ops.specs.RasterOps.{binary_table}
use Rattle.painting.specs.Joined.{joined_if}
use Rattle.painting.proofs.DrawingLemmas.{clip_placed, joined_same}
use Rattle.painting.proofs.fill_style.FillStyle.with.Goals as goal

pub returns-clause-paint : goal.returns-clause-paint
returns-clause-paint g c =
    let s = c.args.machine.now.surface in
    let state = c.args.machine.now.state.dc in
    let dc = c.dc-dc.result.now in
    let value = c.dc-dc.ensures.value in
    let brush = brush_value_of c.args.brush in
    let modes : dc.modes ≡ state.modes = ap (λ (d : DcValue). d.modes) value in
    let table : c.new.result.op.table ≡ binary_table state.modes.raster_op = ap (λ (op : TernaryOp). op.table) c.new.ensures ∙ c.ternary_of.ensures ∙ ap (λ (m : Modes). binary_table m.raster_op) modes in
    record {
      clip = clip_placed s dc.clip dc state refl value c.dc-dc.ensures.placed;
      has = λ x y. ap (λ (m : Modes). is_some (brush_paint brush m.background_mode m.background_colour x y)) modes;
      makes = λ x y old.
          ap (λ (n : ℕ). joined_if n black_colour (brush_paint brush dc.modes.background_mode dc.modes.background_colour x y) old) table
          ∙ ap (λ (m : Modes). joined_if (binary_table state.modes.raster_op) black_colour (brush_paint brush m.background_mode m.background_colour x y) old) modes
          ∙ joined_same c.binary_law.ensures.same state.modes.raster_op s x y black_colour (brush_paint brush state.modes.background_mode state.modes.background_colour x y) old;
    }
