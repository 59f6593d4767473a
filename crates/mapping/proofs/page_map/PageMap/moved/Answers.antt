-- A point's coordinates are those of its axes.
use Rattle.std.proofs.Common.{◌≡◌, ℤ, ◌∙◌, FitsSigned, to_z, of_z, rules, subst, sym}
use Rattle.std.specs.Int.{w32}
use Rattle.mapping.specs.PageMap.{axis_numbers}
use Rattle.mapping.specs.Plane.{IsPlaneCoordinate, plane_coordinate}
use Rattle.mapping.proofs.PagePointLemmas.{in_bits, in_units, same_point}
use Rattle.mapping.proofs.page_map.PageMap.moved.Goals as goal

pub moved-requires-clause-there : goal.moved-requires-clause-there
moved-requires-clause-there c =
    let map = c.args.self.now in
    let one : map.parts ≡ 1 = search rules in
    let point = c.args.point in
    let column_fits : FitsSigned w32 point.x = search rules in
    let column = in_units map.x map.parts _ _ one (in_bits point.x column_fits) in
    subst (λ (n : ℤ). IsPlaneCoordinate n) (sym column) c.requires.there.x

pub moved-requires-2-clause-there : goal.moved-requires-2-clause-there
moved-requires-2-clause-there c =
    let map = c.args.self.now in
    let one : map.parts ≡ 1 = search rules in
    let point = c.args.point in
    let row_fits : FitsSigned w32 point.y = search rules in
    let row = in_units map.y map.parts _ _ one (in_bits point.y row_fits) in
    subst (λ (n : ℤ). IsPlaneCoordinate n) (sym row) c.requires.there.y

pub returns : goal.returns
returns c =
    let map = c.args.self.now in
    let one : map.parts ≡ 1 = search rules in
    let point = c.args.point in
    let x_fits : FitsSigned w32 c.moved.result = search rules in
    let y_fits : FitsSigned w32 c.moved-2.result = search rules in
    let column_fits : FitsSigned w32 point.x = search rules in
    let row_fits : FitsSigned w32 point.y = search rules in
    let column = in_units map.x map.parts _ _ one (in_bits point.x column_fits) in
    let row = in_units map.y map.parts _ _ one (in_bits point.y row_fits) in
    same_point (to_z w32 (of_z w32 c.moved.result)) (to_z w32 (of_z w32 c.moved-2.result))
    (plane_coordinate (axis_numbers map.parts map.x) point.x) (plane_coordinate (axis_numbers map.parts map.y) point.y)
    (in_bits c.moved.result x_fits ∙ c.moved.ensures ∙ column)
    (in_bits c.moved-2.result y_fits ∙ c.moved-2.ensures ∙ row)
