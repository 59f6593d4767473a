-- The products compare as the quotient and the row do.
use Rattle.std.proofs.Common.{◌≡◌, ℤ, pos, ◌*ℤ◌, int_lt, FitsSigned, w32, w64, rules, ap, ◌∙◌}
use Rattle.std.proofs.lemmas.Int.{to_z-of_z}
use Rattle.painting.proofs.MissedLemmas.{quotient_before}
use Rattle.painting.proofs.regions.lands_above.Goals as goal

pub returns : goal.returns
returns c =
    let plane_fits : FitsSigned w32 c.args.plane_row = search rules in
    let row_fits : FitsSigned w32 c.args.row = search rules in
    let left_fits : FitsSigned w64 c.product.result = search rules in
    let right_fits : FitsSigned w64 c.product-2.result = search rules in
    let left : c.product.result ≡ c.args.plane_row *ℤ pos c.args.place.height = simp to_z-of_z at c.product.ensures in
    let right : c.product-2.result ≡ c.args.row *ℤ pos c.args.place.frame.height = simp to_z-of_z at c.product-2.ensures in
    simp to_z-of_z
    (ap (λ (a : ℤ). int_lt a c.product-2.result) left ∙ ap (λ (b : ℤ). int_lt (c.args.plane_row *ℤ pos c.args.place.height) b) right
    ∙ quotient_before c.floor_division_law.ensures (c.args.plane_row *ℤ pos c.args.place.height) c.args.row c.args.place.frame.height c.args.place.frame.high.not_empty)
