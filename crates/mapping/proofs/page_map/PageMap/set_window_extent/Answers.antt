-- Both axes have the new extent.
use Rattle.std.proofs.Common.{◌≡◌, true, rules, FitsSigned, ◌∙◌}
use Rattle.std.specs.Int.{w32}
use Rattle.std.proofs.lemmas.Int.{to_z-of_z}
use Rattle.mapping.specs.MapSettings.{may_set_extents}
use Rattle.mapping.proofs.MapLemmas.{chosen, same_map}
use Rattle.mapping.proofs.page_map.PageMap.set_window_extent.Goals as goal

pub returns-clause-map : goal.returns-clause-map
returns-clause-map c =
    let map = c.args.self.now in
    let x_fits : FitsSigned w32 c.args.extent.x = search rules in
    let y_fits : FitsSigned w32 c.args.extent.y = search rules in
    let x_origin_fits : FitsSigned w32 map.x.window_origin = search rules in
    let y_origin_fits : FitsSigned w32 map.y.window_origin = search rules in
    let x = simp to_z-of_z at (c.with_window.ensures map.parts) in
    let y = simp to_z-of_z at (c.with_window-2.ensures map.parts) in
    let may : may_set_extents map.mode ≡ true = search rules in
    c.new.ensures ∙ same_map map.mode _ _ _ _ x y ∙ chosen (may_set_extents map.mode) _ _ may
