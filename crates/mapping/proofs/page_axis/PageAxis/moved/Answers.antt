-- What isn't scaled is its distance from the window's origin.
use Rattle.std.proofs.Common.{◌∙◌, rules}
use Rattle.std.specs.Prelude.{FitsSigned}
use Rattle.std.specs.Int.{w32, w64}
use Rattle.std.proofs.lemmas.Int.{to_z-of_z}
use Rattle.mapping.proofs.PageAxisLemmas.{moved_alone}
use Rattle.mapping.proofs.page_axis.PageAxis.moved.Goals as goal

pub plane_number-requires : goal.plane_number-requires
plane_number-requires c =
    let axis = c.args.self.now in
    let distance_fits : FitsSigned w64 c.distance.result = search rules in
    let shift_fits : FitsSigned w64 c.shift.result = search rules in
    let coordinate_fits = c.ranges.coordinate in
    let origin_fits : FitsSigned w32 axis.window_origin = search rules in
    let distance = simp to_z-of_z at c.distance.ensures.value in
    let there = moved_alone axis c.args.coordinate c.distance.result c.shift.result c.requires.extents distance c.shift.ensures.value in
    record { there = simp to_z-of_z (rw there c.requires.there) }

pub returns : goal.returns
returns c =
    let axis = c.args.self.now in
    let distance_fits : FitsSigned w64 c.distance.result = search rules in
    let shift_fits : FitsSigned w64 c.shift.result = search rules in
    let number_fits : FitsSigned w32 c.plane_number.result = search rules in
    let coordinate_fits = c.ranges.coordinate in
    let origin_fits : FitsSigned w32 axis.window_origin = search rules in
    let number = simp to_z-of_z at c.plane_number.ensures in
    let distance = simp to_z-of_z at c.distance.ensures.value in
    simp to_z-of_z (number ∙ moved_alone axis c.args.coordinate c.distance.result c.shift.result c.requires.extents distance c.shift.ensures.value)
