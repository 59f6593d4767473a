use Rattle.std.proofs.Common.{◌≡◌, ℕ, Some, ap, refl, ◌∙◌}
use Rattle.mapping.specs.Colours.{black_colour}
use Rattle.draw_ops.specs.declared.ternary_op.TernaryOp.{TernaryOp}
use Rattle.dc_stack.specs.State.{DcValue}
use Rattle.raster_ops.specs.RasterOps.{binary_table}
use Rattle.painting.specs.Joined.{joined_if}
use Rattle.painting.proofs.DrawingLemmas.{clip_placed, joined_same}
use Rattle.painting.proofs.stroke.Stroke.with.Goals as goal

pub returns-clause-paint : goal.returns-clause-paint
returns-clause-paint g c =
    let s = c.args.machine.now.surface in
    let state = c.args.machine.now.state.dc in
    let dc = c.dc-dc.result.now in
    let value = c.dc-dc.ensures.value in
    let table : c.new-mixer.result.op.table ≡ binary_table state.modes.raster_op = ap (λ (op : TernaryOp). op.table) c.new-mixer.ensures ∙ c.ternary_of.ensures ∙ ap (λ (d : DcValue). binary_table d.modes.raster_op) value in
    record {
      clip = clip_placed s dc.clip dc state refl value c.dc-dc.ensures.placed;
      has = λ x y. refl;
      makes = λ x y old.
          c.mix.ensures old
          ∙ ap (λ (n : ℕ). joined_if n black_colour (Some c.args.colour) old) table
          ∙ joined_same c.binary_law.ensures.same state.modes.raster_op s x y black_colour (Some c.args.colour) old;
    }
