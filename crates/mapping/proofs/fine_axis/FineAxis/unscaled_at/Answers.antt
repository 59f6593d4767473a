-- What is moved on lies where the point does.
use Rattle.std.proofs.Common.{◌≡◌, rules}
use Rattle.std.specs.Prelude.{FitsSigned}
use Rattle.std.specs.Int.{w64}
use Rattle.std.proofs.lemmas.Int.{to_z-of_z}
use Rattle.mapping.specs.PageMap.{fine_numbers}
use Rattle.mapping.proofs.PageAxisLemmas.{moved_in_parts}
use Rattle.mapping.proofs.fine_axis.FineAxis.unscaled_at.Goals as goal

pub plane_number-requires : goal.plane_number-requires
plane_number-requires c =
    let coordinate_fits = c.ranges.coordinate in
    let scaled_fits : FitsSigned w64 c.unscaled.result = search rules in
    let shift_fits : FitsSigned w64 c.shift.result = search rules in
    let scaled = simp to_z-of_z at c.unscaled.ensures in
    let there = moved_in_parts (fine_numbers c.args.self.now) c.args.coordinate c.unscaled.result c.shift.result scaled c.shift.ensures.value in
    simp to_z-of_z (rw there (record { there = c.requires.there }))
