-- Each step's contract is about the number that it was passed, which is the one before it.
use Rattle.std.proofs.Common.{◌≡◌, ℤ, pos, ◌-ℤ◌, ◌*ℤ◌, ap, rules, sym, ◌∙◌}
use Rattle.std.specs.Prelude.{FitsSigned}
use Rattle.std.specs.Int.{w32, w64}
use Rattle.std.proofs.lemmas.Int.{to_z-of_z}
use Rattle.mapping.specs.Floor.{floor_div}
use Rattle.mapping.proofs.Products.{exchanged}
use Rattle.mapping.proofs.fine_axis.FineAxis.in_parts.Goals as goal

product_is : (away viewport distance extent product : ℤ) → distance ≡ away → extent ≡ viewport → product ≡ distance *ℤ extent → product ≡ away *ℤ viewport
product_is away viewport distance extent product d e p = p ∙ ap (λ n. n *ℤ extent) d ∙ ap (λ n. away *ℤ n) e

pub quotient_in_parts-requires-clause-whole : goal.quotient_in_parts-requires-clause-whole
quotient_in_parts-requires-clause-whole c =
    let axis = c.args.self.now.axis in
    let whole_fits = c.ranges.whole in
    let coordinate_fits = c.ranges.coordinate in
    let viewport_fits : FitsSigned w32 axis.viewport_extent = search rules in
    let window_fits : FitsSigned w32 axis.window_extent = search rules in
    let origin_fits : FitsSigned w32 axis.window_origin = search rules in
    let distance_fits : FitsSigned w64 c.distance.result = search rules in
    let from_fits : FitsSigned w64 c.from.result = search rules in
    let divisor_fits : FitsSigned w64 c.from-2.result = search rules in
    let product_fits : FitsSigned w64 c.product-product.result = search rules in
    let distance = simp to_z-of_z at c.distance.ensures.value in
    let from = simp to_z-of_z at c.from.ensures in
    let product = simp to_z-of_z at c.product-product.ensures.value in
    let divisor = simp to_z-of_z at c.from-2.ensures in
    let is = product_is (c.args.coordinate -ℤ axis.window_origin) axis.viewport_extent c.distance.result c.from.result c.product-product.result distance from product in
    simp to_z-of_z (c.requires.whole ∙ sym (ap (λ n. floor_div n axis.window_extent) is) ∙ sym (ap (floor_div c.product-product.result) divisor))

pub returns : goal.returns
returns c =
    let axis = c.args.self.now.axis in
    let parts = pos c.args.self.now.parts in
    let away = c.args.coordinate -ℤ axis.window_origin in
    let coordinate_fits = c.ranges.coordinate in
    let viewport_fits : FitsSigned w32 axis.viewport_extent = search rules in
    let window_fits : FitsSigned w32 axis.window_extent = search rules in
    let origin_fits : FitsSigned w32 axis.window_origin = search rules in
    let distance_fits : FitsSigned w64 c.distance.result = search rules in
    let from_fits : FitsSigned w64 c.from.result = search rules in
    let divisor_fits : FitsSigned w64 c.from-2.result = search rules in
    let parts_fits : FitsSigned w64 c.from-3.result = search rules in
    let product_fits : FitsSigned w64 c.product-product.result = search rules in
    let quotient_fits : FitsSigned w64 c.quotient_in_parts.result = search rules in
    let distance = simp to_z-of_z at c.distance.ensures.value in
    let from = simp to_z-of_z at c.from.ensures in
    let product = simp to_z-of_z at c.product-product.ensures.value in
    let divisor = simp to_z-of_z at c.from-2.ensures in
    let quotient = simp to_z-of_z at c.quotient_in_parts.ensures in
    let is = product_is away axis.viewport_extent c.distance.result c.from.result c.product-product.result distance from product in
    let dividend = ap (λ n. n *ℤ c.from-3.result) is ∙ ap (λ n. (away *ℤ axis.viewport_extent) *ℤ n) c.from-3.ensures ∙ exchanged away axis.viewport_extent parts in
    simp to_z-of_z (quotient ∙ ap (λ n. floor_div n c.from-2.result) dividend ∙ ap (floor_div ((away *ℤ parts) *ℤ axis.viewport_extent)) divisor)
