-- What isn't scaled is its distance from the window's origin.
use Rattle.std.proofs.Common.{◌≡◌, sym, rules}
use Rattle.std.specs.Prelude.{◌+ℤ◌, FitsSigned}
use Rattle.std.specs.Int.{w32, w64}
use Rattle.std.proofs.lemmas.Int.{to_z-of_z}
use Rattle.mapping.specs.PageMap.{axis_coordinate}
use Rattle.mapping.proofs.PageAxisLemmas.{moved_alone}
use Rattle.mapping.proofs.page_axis.PageAxis.moved_plane.Goals as goal

there : (c : goal.After-on_plane) → c.distance.result +ℤ c.shift.result ≡ axis_coordinate c.args.self.now c.args.coordinate
there c =
    let axis = c.args.self.now in
    let coordinate_fits = c.ranges.coordinate in
    let origin_fits : FitsSigned w32 axis.window_origin = search rules in
    let distance = simp to_z-of_z at c.distance.ensures.value in
    moved_alone axis c.args.coordinate c.distance.result c.shift.result c.requires distance c.shift.ensures.value

pub returns-clause-value : goal.returns-clause-value
returns-clause-value c =
    let distance_fits : FitsSigned w64 c.distance.result = search rules in
    let shift_fits : FitsSigned w64 c.shift.result = search rules in
    let value = simp to_z-of_z at c.on_plane.ensures.value in
    rw (sym (there c)) value

pub returns-clause-test : goal.returns-clause-test
returns-clause-test c =
    let distance_fits : FitsSigned w64 c.distance.result = search rules in
    let shift_fits : FitsSigned w64 c.shift.result = search rules in
    let test = simp to_z-of_z at c.on_plane.ensures.test in
    rw (sym (there c)) test
