-- If the extents are the same, the distance in parts is the floor of its own multiple.
use Rattle.std.proofs.Common.{◌≡◌, pos, ◌-ℤ◌, ◌*ℤ◌, ap, refl, rules, sym, arith, ◌∙◌}
use Rattle.std.specs.Prelude.{FitsSigned}
use Rattle.std.specs.Int.{w32, w64}
use Rattle.std.proofs.lemmas.Int.{ints, to_z-of_z}
use Rattle.mapping.specs.Floor.{floor_div}
use Rattle.mapping.proofs.FloorLemmas.{floor_of_multiple}
use Rattle.mapping.proofs.fine_axis.FineAxis.unscaled.Goals as goal

pub returns : goal.returns
returns c =
    let axis = c.args.self.now.axis in
    let parts = pos c.args.self.now.parts in
    let away = c.args.coordinate -ℤ axis.window_origin in
    let coordinate_fits = c.ranges.coordinate in
    let origin_fits : FitsSigned w32 axis.window_origin = search rules in
    let distance_fits : FitsSigned w64 c.distance.result = search rules in
    let from_fits : FitsSigned w64 c.from.result = search rules in
    let times_fits : FitsSigned w64 c.times.result = search rules in
    let same : axis.viewport_extent ≡ axis.window_extent = let is = c.requires.same in grind (arith, ints, is) in
    let distance : c.distance.result ≡ away = simp to_z-of_z at c.distance.ensures.value in
    let from : c.from.result ≡ parts = c.from.ensures in
    let times : c.times.result ≡ c.distance.result *ℤ c.from.result = simp to_z-of_z at c.times.ensures.value in
    let product : c.times.result ≡ away *ℤ parts = rw (times, distance, from) refl in
    let multiple = floor_of_multiple (away *ℤ parts) axis.window_extent axis.window_has_extent in
    simp to_z-of_z (product ∙ sym (ap (λ v. floor_div ((away *ℤ parts) *ℤ v) axis.window_extent) same ∙ multiple))
