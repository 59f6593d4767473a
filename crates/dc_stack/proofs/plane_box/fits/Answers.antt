-- Two corners of a box tell whether all points land.
use Rattle.std.proofs.Common.{◌∙◌}
use Rattle.mapping.specs.PlaceOf.{surface_of}
use Rattle.mapping.specs.PlacingLaws.{ShowsFrame}
use Rattle.dc_stack.specs.Extents.{IsPlaneBox}
use Rattle.dc_stack.proofs.PlaneBoxLemmas.{land_by_corners}
use Rattle.dc_stack.proofs.plane_box.fits.Goals as goal

pub returns-in-Some : goal.returns-in-Some
returns-in-Some c = λ points h.
    let place = c.args.place in
    let shows : ShowsFrame (surface_of place) = record { wide = place.frame.wide; high = place.frame.high } in
    let boxed : IsPlaneBox c.in-Some.bounds points = rw c.in-Some.is at h in
    c.box_fits.ensures ∙ land_by_corners c.box_law.ensures c.in-Some.bounds points (surface_of place) shows boxed
