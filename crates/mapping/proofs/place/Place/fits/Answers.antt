-- The test of both coordinates is that of the point.
use Rattle.std.proofs.Common.{◌≡◌, Bool, rules, sym, subst}
use Rattle.std.specs.Prelude.{IsTrue}
use Rattle.mapping.specs.PlaceOf.{surface_of}
use Rattle.mapping.specs.Surface.{FitsPlace, fits_place, fits_place_from, fits_place_true, placed_point}
use Rattle.mapping.proofs.place.Place.fits.Goals as goal

pub returns-then-axis_fits-clause-limits : goal.returns-then-axis_fits-clause-limits
returns-then-axis_fits-clause-limits c =
    let there = placed_point c.args.point (surface_of c.args.self.now) in
    let same : c.axis_fits-then-axis_fits.result ≡ fits_place there = search rules in
    subst (λ (b : Bool). (IsTrue b → FitsPlace there) × (FitsPlace there → IsTrue b)) (sym same) (fits_place_true there, fits_place_from there)
