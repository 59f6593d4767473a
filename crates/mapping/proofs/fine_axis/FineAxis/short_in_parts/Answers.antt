-- The distance was multiplied by the extent first.
use Rattle.std.proofs.Common.{◌≡◌, ℤ, pos, ◌-ℤ◌, ◌*ℤ◌, ap, rules, sym, ◌∙◌}
use Rattle.std.specs.Prelude.{FitsSigned}
use Rattle.std.specs.Int.{w32, w64}
use Rattle.std.proofs.lemmas.Int.{to_z-of_z}
use Rattle.mapping.specs.Floor.{floor_div}
use Rattle.mapping.proofs.Products.{exchanged}
use Rattle.mapping.proofs.fine_axis.FineAxis.short_in_parts.Goals as goal

pub returns : goal.returns
returns c =
    let axis = c.args.self.now.axis in
    let parts = pos c.args.self.now.parts in
    let away = c.args.coordinate -ℤ axis.window_origin in
    let coordinate_fits = c.ranges.coordinate in
    let product_fits = c.ranges.product in
    let window_fits : FitsSigned w32 axis.window_extent = search rules in
    let parts_fits : FitsSigned w64 c.from.result = search rules in
    let divisor_fits : FitsSigned w64 c.from-2.result = search rules in
    let times_fits : FitsSigned w64 c.times-parts.result = search rules in
    let quotient_fits : FitsSigned w64 c.floor_quotient.result = search rules in
    let product = c.requires.product in
    let times = simp to_z-of_z at c.times-parts.ensures.value in
    let from = c.from.ensures in
    let divisor = simp to_z-of_z at c.from-2.ensures in
    let quotient = simp to_z-of_z at c.floor_quotient.ensures.value in
    let dividend = times ∙ ap (λ n. n *ℤ c.from.result) product ∙ ap (λ n. (away *ℤ axis.viewport_extent) *ℤ n) from ∙ exchanged away axis.viewport_extent parts in
    simp to_z-of_z (quotient ∙ ap (λ n. floor_div n c.from-2.result) dividend ∙ ap (floor_div ((away *ℤ parts) *ℤ axis.viewport_extent)) divisor)
