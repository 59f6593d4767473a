-- The number that is told is what is scaled and moved on.
use Rattle.std.proofs.Common.{◌∙◌, refl, rules}
use Rattle.std.specs.Prelude.{FitsSigned}
use Rattle.std.specs.Int.{w32, w64}
use Rattle.std.proofs.lemmas.Int.{to_z-of_z}
use Rattle.mapping.specs.PageMap.{axis_numbers}
use Rattle.mapping.proofs.PageAxisLemmas.{scaled_and_moved}
use Rattle.mapping.proofs.page_axis.PageAxis.at.Goals as goal

pub plane_number-requires : goal.plane_number-requires
plane_number-requires c =
    let scaled_fits : FitsSigned w64 c.scaled.result = search rules in
    let shift_fits : FitsSigned w64 c.shift.result = search rules in
    let coordinate_fits = c.ranges.coordinate in
    let scaled = simp to_z-of_z at c.scaled.ensures in
    let there = scaled_and_moved (axis_numbers 1 c.args.self.now) c.args.coordinate c.scaled.result c.shift.result refl scaled c.shift.ensures.value in
    record { there = simp to_z-of_z (rw there c.requires) }

pub returns : goal.returns
returns c =
    let scaled_fits : FitsSigned w64 c.scaled.result = search rules in
    let shift_fits : FitsSigned w64 c.shift.result = search rules in
    let number_fits : FitsSigned w32 c.plane_number.result = search rules in
    let number = simp to_z-of_z at c.plane_number.ensures in
    let coordinate_fits = c.ranges.coordinate in
    let scaled = simp to_z-of_z at c.scaled.ensures in
    simp to_z-of_z (number ∙ scaled_and_moved (axis_numbers 1 c.args.self.now) c.args.coordinate c.scaled.result c.shift.result refl scaled c.shift.ensures.value)
