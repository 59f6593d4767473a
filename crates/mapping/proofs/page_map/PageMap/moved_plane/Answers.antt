-- A point is on the plane if both coordinates are.
use Rattle.std.proofs.Common.{◌≡◌, ℤ, ◌∙◌, FitsSigned, to_z, of_z, ap, rules, subst, sym}
use Rattle.std.specs.Int.{w32}
use Rattle.mapping.specs.Limits.{is_within, plane_limit}
use Rattle.mapping.specs.PageMap.{axis_numbers}
use Rattle.mapping.specs.Plane.{IsPlaneCoordinate, plane_coordinate}
use Rattle.mapping.proofs.PagePointLemmas.{both, first_fails, in_bits, in_units, same_point, second_fails}
use Rattle.mapping.proofs.page_map.PageMap.moved_plane.Goals as goal

pub returns-clause-test : goal.returns-clause-test
returns-clause-test c =
    let map = c.args.self.now in
    let one : map.parts ≡ 1 = search rules in
    let column_fits : FitsSigned w32 c.args.point.x = search rules in
    let row_fits : FitsSigned w32 c.args.point.y = search rules in
    let column = in_units map.x map.parts _ _ one (in_bits c.args.point.x column_fits) in
    let row = in_units map.y map.parts _ _ one (in_bits c.args.point.y row_fits) in
    both _ _ (c.in-Some.ensures.test ∙ ap (is_within plane_limit) column) (c.in-Some-moved_plane.ensures.test ∙ ap (is_within plane_limit) row)

pub returns-in_default-clause-test : goal.returns-in_default-clause-test
returns-in_default-clause-test c =
    let map = c.args.self.now in
    let one : map.parts ≡ 1 = search rules in
    let column_fits : FitsSigned w32 c.args.point.x = search rules in
    let column = in_units map.x map.parts _ _ one (in_bits c.args.point.x column_fits) in
    first_fails _ _ (c.in_default.ensures.test ∙ ap (is_within plane_limit) column)

pub returns-in_default-moved_plane-clause-test : goal.returns-in_default-moved_plane-clause-test
returns-in_default-moved_plane-clause-test c =
    let map = c.args.self.now in
    let one : map.parts ≡ 1 = search rules in
    let row_fits : FitsSigned w32 c.args.point.y = search rules in
    let row = in_units map.y map.parts _ _ one (in_bits c.args.point.y row_fits) in
    second_fails _ _ (c.in_default-moved_plane.ensures.test ∙ ap (is_within plane_limit) row)

pub returns-clause-point : goal.returns-clause-point
returns-clause-point c =
    let map = c.args.self.now in
    let one : map.parts ≡ 1 = search rules in
    let column_fits : FitsSigned w32 c.args.point.x = search rules in
    let row_fits : FitsSigned w32 c.args.point.y = search rules in
    let x_fits : FitsSigned w32 c.in-Some.x = search rules in
    let y_fits : FitsSigned w32 c.in-Some-moved_plane.y = search rules in
    let column = in_units map.x map.parts _ _ one (in_bits c.args.point.x column_fits) in
    let row = in_units map.y map.parts _ _ one (in_bits c.args.point.y row_fits) in
    let x = c.in-Some.ensures.value in
    let y = c.in-Some-moved_plane.ensures.value in (
      record { x = subst (λ (n : ℤ). IsPlaneCoordinate n) column x.0; y = subst (λ (n : ℤ). IsPlaneCoordinate n) row y.0 },
      same_point (to_z w32 (of_z w32 c.in-Some.x)) (to_z w32 (of_z w32 c.in-Some-moved_plane.y))
          (plane_coordinate (axis_numbers map.parts map.x) c.args.point.x) (plane_coordinate (axis_numbers map.parts map.y) c.args.point.y)
          (in_bits c.in-Some.x x_fits ∙ x.1 ∙ column) (in_bits c.in-Some-moved_plane.y y_fits ∙ y.1 ∙ row),
    )

pub returns-in_default-clause-point : goal.returns-in_default-clause-point
returns-in_default-clause-point c = λ on.
    let map = c.args.self.now in
    let one : map.parts ≡ 1 = search rules in
    let column_fits : FitsSigned w32 c.args.point.x = search rules in
    let column = in_units map.x map.parts _ _ one (in_bits c.args.point.x column_fits) in
    c.in_default.ensures.value (subst (λ (n : ℤ). IsPlaneCoordinate n) (sym column) on.x)

pub returns-in_default-moved_plane-clause-point : goal.returns-in_default-moved_plane-clause-point
returns-in_default-moved_plane-clause-point c = λ on.
    let map = c.args.self.now in
    let one : map.parts ≡ 1 = search rules in
    let row_fits : FitsSigned w32 c.args.point.y = search rules in
    let row = in_units map.y map.parts _ _ one (in_bits c.args.point.y row_fits) in
    c.in_default-moved_plane.ensures.value (subst (λ (n : ℤ). IsPlaneCoordinate n) (sym row) on.y)
