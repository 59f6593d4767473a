-- The number that is told is what is scaled and moved on.
use Rattle.std.proofs.Common.{refl, ◌≡◌, sym, rules}
use Rattle.std.specs.Prelude.{◌+ℤ◌, FitsSigned}
use Rattle.std.specs.Int.{w32, w64}
use Rattle.std.proofs.lemmas.Int.{to_z-of_z}
use Rattle.mapping.specs.PageMap.{axis_coordinate, axis_numbers}
use Rattle.mapping.proofs.PageAxisLemmas.{scaled_and_moved}
use Rattle.mapping.proofs.page_axis.PageAxis.plane.Goals as goal

there : (c : goal.After-on_plane) → c.scaled.result +ℤ c.shift.result ≡ axis_coordinate c.args.self.now c.args.coordinate
there c =
    let axis = c.args.self.now in
    let whole_fits = c.ranges.coordinate in
    let coordinate_fits : FitsSigned w32 c.in-Ok.coordinate = search rules in
    let same : c.in-Ok.coordinate ≡ c.args.coordinate = simp to_z-of_z at (c.in-Ok.ensures.1) in
    let scaled = simp to_z-of_z at c.scaled.ensures in
    scaled_and_moved (axis_numbers 1 axis) c.args.coordinate c.scaled.result c.shift.result refl (rw same at scaled) c.shift.ensures.value

pub returns-in-Ok-clause-value : goal.returns-in-Ok-clause-value
returns-in-Ok-clause-value c =
    let scaled_fits : FitsSigned w64 c.scaled.result = search rules in
    let shift_fits : FitsSigned w64 c.shift.result = search rules in
    let value = simp to_z-of_z at c.on_plane.ensures.value in
    rw (sym (there c)) value

pub returns-in-Ok-clause-test : goal.returns-in-Ok-clause-test
returns-in-Ok-clause-test c =
    let scaled_fits : FitsSigned w64 c.scaled.result = search rules in
    let shift_fits : FitsSigned w64 c.shift.result = search rules in
    let test = simp to_z-of_z at c.on_plane.ensures.test in
    rw (sym (there c)) test
