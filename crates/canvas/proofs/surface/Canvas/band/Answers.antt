use Rattle.std.proofs.Common.{◌≡◌, ◌*◌, List, ap, replicate, ◌∙◌, arith}
use Rattle.mapping.specs.declared.geometry.Colour.{Colour}
use Rattle.canvas.specs.CanvasState.{made_of}
use Rattle.canvas.specs.Rows.{row_colours, row_stride}
use Rattle.canvas.proofs.RowLemmas.{row_colours_of_one}
use Rattle.canvas.proofs.surface.Canvas.band.Goals as goal

pub returns : goal.returns
returns c =
    let width = c.args.width in
    let stride = row_stride width in
    let rows = c.args.rows in
    let many : c.area.result ≡ rows * stride = c.area.ensures ∙ ap (λ n. rows * n) c.stride_of.ensures in
    let items : c.in_ok-colours.colours.items ≡ replicate (rows * stride) c.args.colour = c.in_ok-colours.ensures ∙ ap (λ n. replicate n c.args.colour) many in
    c.of.ensures
    ∙ ap (λ (cs : List Colour). made_of cs width c.args.first rows)
    (ap (row_colours rows width stride) items ∙ row_colours_of_one rows width stride c.args.colour (omega arith))
