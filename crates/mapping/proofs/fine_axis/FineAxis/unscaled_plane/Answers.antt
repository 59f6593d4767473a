-- The number that is reported is what is scaled and moved on.
use Rattle.std.proofs.Common.{◌≡◌, sym, rules}
use Rattle.std.specs.Prelude.{◌+ℤ◌, FitsSigned}
use Rattle.std.specs.Int.{w64}
use Rattle.std.proofs.lemmas.Int.{to_z-of_z}
use Rattle.mapping.specs.PageMap.{fine_coordinate, fine_numbers}
use Rattle.mapping.proofs.PageAxisLemmas.{moved_in_parts}
use Rattle.mapping.proofs.fine_axis.FineAxis.unscaled_plane.Goals as goal

there : (c : goal.After-on_plane) → c.unscaled.result +ℤ c.shift.result ≡ fine_coordinate c.args.self.now c.args.coordinate
there c =
    let coordinate_fits = c.ranges.coordinate in
    let scaled = simp to_z-of_z at c.unscaled.ensures in
    moved_in_parts (fine_numbers c.args.self.now) c.args.coordinate c.unscaled.result c.shift.result scaled c.shift.ensures.value

pub returns-clause-value : goal.returns-clause-value
returns-clause-value c =
    let scaled_fits : FitsSigned w64 c.unscaled.result = search rules in
    let shift_fits : FitsSigned w64 c.shift.result = search rules in
    let value = simp to_z-of_z at c.on_plane.ensures.value in
    rw (sym (there c)) value

pub returns-clause-test : goal.returns-clause-test
returns-clause-test c =
    let scaled_fits : FitsSigned w64 c.unscaled.result = search rules in
    let shift_fits : FitsSigned w64 c.shift.result = search rules in
    let test = simp to_z-of_z at c.on_plane.ensures.test in
    rw (sym (there c)) test
