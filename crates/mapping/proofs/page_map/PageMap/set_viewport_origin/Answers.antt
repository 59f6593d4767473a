-- Both axes have the new origin.
use Rattle.std.proofs.Common.{rules, FitsSigned, ◌∙◌}
use Rattle.std.specs.Int.{w32}
use Rattle.std.proofs.lemmas.Int.{to_z-of_z}
use Rattle.mapping.proofs.MapLemmas.{same_map}
use Rattle.mapping.proofs.page_map.PageMap.set_viewport_origin.Goals as goal

pub returns : goal.returns
returns c =
    let map = c.args.self.now in
    let x_fits : FitsSigned w32 c.args.origin.x = search rules in
    let y_fits : FitsSigned w32 c.args.origin.y = search rules in
    let x_extent_fits : FitsSigned w32 map.x.viewport_extent = search rules in
    let y_extent_fits : FitsSigned w32 map.y.viewport_extent = search rules in
    let x = simp to_z-of_z at (c.with_viewport.ensures map.parts) in
    let y = simp to_z-of_z at (c.with_viewport-2.ensures map.parts) in
    c.new.ensures ∙ same_map map.mode _ _ _ _ x y
