-- The products lie between the limits where the placed coordinate does.
use Rattle.std.proofs.Common.{◌≡◌, pos, ◌*ℤ◌, refl, rules}
use Rattle.std.specs.Prelude.{FitsSigned}
use Rattle.std.specs.Int.{w32, w64}
use Rattle.std.proofs.lemmas.Int.{to_z-of_z}
use Rattle.mapping.specs.Limits.{place_limit}
use Rattle.mapping.proofs.FitLemmas.{above_low, below_low}
use Rattle.mapping.proofs.place.axis_fits.Goals as goal

pub returns-then-limit_on-part : goal.returns-then-limit_on-part
unfolding place_limit
returns-then-limit_on-part c =
    let coordinate_fits : FitsSigned w32 c.args.coordinate = search rules in
    let part_fits : FitsSigned w64 c.product-part.result = search rules in
    let low_fits : FitsSigned w64 c.limit_on.result = search rules in
    let high_fits : FitsSigned w64 c.limit_on-then-limit_on-part.result = search rules in
    let value : c.product-part.result ≡ c.args.coordinate *ℤ pos c.args.surface_side = simp to_z-of_z at c.product-part.ensures in
    let holds = simp to_z-of_z at c.if-limit_on-part.true in
    simp to_z-of_z
    (above_low c.product-part.result c.limit_on.result c.limit_on-then-limit_on-part.result (c.args.coordinate *ℤ pos c.args.surface_side) place_limit c.args.frame_side
    (record { not_empty = c.requires.frame.not_empty; low = c.limit_on.ensures; high = c.limit_on-then-limit_on-part.ensures }) value holds)

pub returns-else-limit_on-part : goal.returns-else-limit_on-part
unfolding place_limit
returns-else-limit_on-part c =
    let coordinate_fits : FitsSigned w32 c.args.coordinate = search rules in
    let part_fits : FitsSigned w64 c.product-part.result = search rules in
    let low_fits : FitsSigned w64 c.limit_on.result = search rules in
    let value : c.product-part.result ≡ c.args.coordinate *ℤ pos c.args.surface_side = simp to_z-of_z at c.product-part.ensures in
    let fails = simp to_z-of_z at c.if-limit_on-part.false in
    simp to_z-of_z
    (below_low c.product-part.result c.limit_on.result (pos 268435457 *ℤ pos c.args.frame_side) (c.args.coordinate *ℤ pos c.args.surface_side) place_limit c.args.frame_side
    (record { not_empty = c.requires.frame.not_empty; low = c.limit_on.ensures; high = refl }) value fails)
