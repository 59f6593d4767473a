-- The numbers are what they are as they are passed.
use Rattle.std.proofs.Common.{FitsSigned, w32, w64, ◌≡◌, rules, refl}
use Rattle.std.proofs.lemmas.Int.{to_z-of_z}
use Rattle.span_fill.proofs.EdgeLemmas.{near_within, within_wider}
use Rattle.span_fill.proofs.edge.Edge.dividend.Goals as goal

pub product-by_height-requires-clause-b : goal.product-by_height-requires-clause-b
product-by_height-requires-clause-b c =
    let x : FitsSigned w32 c.args.self.upper.x = search rules in
    let fits : FitsSigned w64 c.from.result = search rules in
    let is : c.from.result ≡ c.args.self.upper.x = simp to_z-of_z at c.from.ensures in
    simp to_z-of_z (rw is (within_wider _ _ _ (search rules) (near_within _ c.requires.edge.upper.x)))

pub product-by_width-requires-clause-b : goal.product-by_width-requires-clause-b
product-by_width-requires-clause-b c =
    let fits : FitsSigned w64 c.across.result = search rules in
    simp to_z-of_z c.across.ensures.near

pub returns-clause-value : goal.returns-clause-value
returns-clause-value c =
    let x : FitsSigned w32 c.args.self.upper.x = search rules in
    let down : FitsSigned w64 c.down.result = search rules in
    let doubled : FitsSigned w64 c.doubled.result = search rules in
    let from : FitsSigned w64 c.from.result = search rules in
    let by_height : FitsSigned w64 c.product-by_height.result = search rules in
    let half_rows : FitsSigned w64 c.half_rows.result = search rules in
    let across : FitsSigned w64 c.across.result = search rules in
    let by_width : FitsSigned w64 c.product-by_width.result = search rules in
    let sum : FitsSigned w64 c.sum.result = search rules in
    let from_is = simp to_z-of_z at c.from.ensures in
    let doubled_is = simp to_z-of_z at c.doubled.ensures.value in
    let by_height_is = simp to_z-of_z at c.product-by_height.ensures.value in
    let by_width_is = simp to_z-of_z at c.product-by_width.ensures.value in
    let sum_is = simp to_z-of_z at c.sum.ensures.value in
    simp to_z-of_z (rw (sum_is, by_height_is, by_width_is, doubled_is, from_is, c.down.ensures.value, c.half_rows.ensures.value, c.across.ensures.value) refl)
