use Rattle.std.proofs.Common.{◌∙◌, ap, rules, sym, FitsSigned}
use Rattle.std.specs.Int.{w32, w64}
use Rattle.std.proofs.lemmas.Bool.{and_from, and_right}
use Rattle.std.proofs.lemmas.Int.{to_z-of_z}
use Rattle.raster_ops.specs.Sources.{axis_read, is_axis_inside, least_end}
use Rattle.raster_ops.proofs.sources.SourceReader.of_rectangle.Goals as goal

pub returns-in_default-new-clause-some : goal.returns-in_default-new-clause-some
returns-in_default-new-clause-some c =
    let y : FitsSigned w32 c.args.rectangle.now.extent.y = search rules in
    let row = c.ranges.row in
    let r = c.args.rectangle.now in
    let h = simp to_z-of_z at (c.in_default-new.ensures {u = tt}).some in
    sym (and_right _ _ (sym (h ∙ ap (λ n. is_axis_inside c.args.row r.extent.y n) c.height-height.ensures)))

pub returns-clause-some : goal.returns-clause-some
returns-clause-some c =
    let corner : FitsSigned w32 c.args.rectangle.now.corner.x = search rules in
    let x : FitsSigned w32 c.args.rectangle.now.extent.x = search rules in
    let column : FitsSigned w64 c.least_end-column.result = search rules in
    let end = simp to_z-of_z at c.least_end-column.ensures.end in
    let y : FitsSigned w32 c.args.rectangle.now.extent.y = search rules in
    let row = c.ranges.row in
    let r = c.args.rectangle.now in
    let g = simp to_z-of_z at (c.in-Some.ensures {u = tt}).some in
    let h = simp to_z-of_z at (c.in-Some-new.ensures {u = tt}).some in
    let across = g ∙ ap (λ n. is_axis_inside n r.extent.x c.width-width.result) end ∙ ap (λ n. is_axis_inside (least_end r.corner.x r.extent.x) r.extent.x n) c.width-width.ensures in
    let down = h ∙ ap (λ n. is_axis_inside c.args.row r.extent.y n) c.height-height.ensures in
    sym (and_from _ _ (sym across) (sym down))

pub returns-clause-columns : goal.returns-clause-columns
returns-clause-columns c =
    let corner : FitsSigned w32 c.args.rectangle.now.corner.x = search rules in
    let x : FitsSigned w32 c.args.rectangle.now.extent.x = search rules in
    let column : FitsSigned w64 c.least_end-column.result = search rules in
    let end = simp to_z-of_z at c.least_end-column.ensures.end in
    let p : FitsSigned w32 c.args.first.x = search rules in
    let q : FitsSigned w32 c.args.second.x = search rules in
    let h = simp to_z-of_z at (c.in-Some.ensures {u = tt}).reading in
    h ∙ ap (λ n. axis_read n c.args.rectangle.now.extent.x c.args.first.x c.args.second.x) end

pub returns-clause-rows : goal.returns-clause-rows
returns-clause-rows c =
    let y : FitsSigned w32 c.args.rectangle.now.extent.y = search rules in
    let row = c.ranges.row in
    let p : FitsSigned w32 c.args.first.y = search rules in
    let q : FitsSigned w32 c.args.second.y = search rules in
    simp to_z-of_z at (c.in-Some-new.ensures {u = tt}).reading
