use Rattle.std.proofs.Common.{◌≡◌, ◌*◌, ◌≤◌, List, ap, arith, length, rules, ◌∙◌}
use Rattle.std.proofs.lemmas.Bool.{cond-true}
use Rattle.std.proofs.lemmas.List.{take_at}
use Rattle.std.proofs.lemmas.Nat.{mul-le}
use Rattle.mapping.specs.declared.geometry.Colour.{Colour}
use Rattle.canvas.specs.CanvasState.{shown_again}
use Rattle.canvas.specs.Rows.{row_colours}
use Rattle.canvas.proofs.PartLemmas.{all_one}
use Rattle.canvas.proofs.RowLemmas.{row_colours_of_one}
use Rattle.canvas.proofs.surface.Canvas.again.Goals as goal

pub returns : goal.returns
returns c =
    let inside = c.self.inside in
    let stride = inside.stride in
    let rows = c.args.rows in
    let colour = c.args.colour in
    let filled = c.fill_with.new.part in
    let apart = c.self.invariant.apart in
    let most : rows ≤ inside.most = search rules in
    let less = mul-le rows stride inside.most stride most (omega arith) in
    let count : c.resize.new.self.len ≡ rows * stride = c.resize.ensures.len ∙ cond-true _ _ _ (c.resize.ensures.succeeds (omega (arith, less))) ∙ c.area-count.ensures in
    let long : length filled ≡ c.resize.new.self.len = search rules in
    let items = take_at filled _ c.resize.new.self.len long ∙ all_one filled (rows * stride) colour (long ∙ count) (search (count, rules)) in
    ap (λ (cs : List Colour). record { width = inside.width; first = c.args.first; rows = rows; colours = cs; writes = inside.writes; most = inside.most })
    (ap (row_colours rows inside.width stride) items ∙ row_colours_of_one rows inside.width stride colour (omega (arith, apart)))
    ∙ ap (shown_again c.args.first rows colour) c.self.view_is
