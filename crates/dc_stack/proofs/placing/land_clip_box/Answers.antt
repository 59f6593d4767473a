use Rattle.std.proofs.Common.{◌≡◌, true, false, rules, ap, sym, ◌∙◌}
use Rattle.mapping.specs.PlaceOf.{surface_of}
use Rattle.mapping.specs.PageMap.{map_numbers}
use Rattle.mapping.specs.PlacingLaws.{ShowsFrame}
use Rattle.dc_stack.specs.Mapped.{mapped_corners}
use Rattle.dc_stack.proofs.LandingLemmas.{off_unless}
use Rattle.dc_stack.proofs.PlaneBoxLemmas.{corners_fit}
use Rattle.dc_stack.proofs.placing.land_clip_box.Goals as goal

pub returns-in-Err-clause-fault : goal.returns-in-Err-clause-fault
returns-in-Err-clause-fault c =
    let place = c.args.place in
    let shows : ShowsFrame (surface_of place) = record { wide = place.frame.wide; high = place.frame.high } in
    c.in-Err.ensures.off (surface_of place) shows

pub returns-then-not-fits-clause-fault : goal.returns-then-not-fits-clause-fault
returns-then-not-fits-clause-fault c =
    let no : c.fits.result ≡ false = search rules in
    ap off_unless (sym no ∙ c.fits.ensures (mapped_corners (map_numbers c.args.map.now) c.args.corners) c.in-Ok.ensures.extent)

pub returns-clause-fault : goal.returns-clause-fault
returns-clause-fault c =
    let yes : c.fits.result ≡ true = search rules in
    ap off_unless (sym yes ∙ c.fits.ensures (mapped_corners (map_numbers c.args.map.now) c.args.corners) c.in-Ok.ensures.extent)

pub at-near-requires : goal.at-near-requires
at-near-requires c =
    let s = surface_of c.args.place in
    let shows : ShowsFrame s = record { wide = c.args.place.frame.wide; high = c.args.place.frame.high } in
    let corners = mapped_corners (map_numbers c.args.map.now) c.args.corners in
    let yes : c.fits.result ≡ true = search rules in
    let all = sym yes ∙ c.fits.ensures corners c.in-Ok.ensures.extent in
    rw c.left_top.ensures (corners_fit c.box_law.ensures c.in-Ok.plane corners s shows c.limits_law.ensures c.in-Ok.ensures.extent all).0

pub at-far-requires : goal.at-far-requires
at-far-requires c =
    let s = surface_of c.args.place in
    let shows : ShowsFrame s = record { wide = c.args.place.frame.wide; high = c.args.place.frame.high } in
    let corners = mapped_corners (map_numbers c.args.map.now) c.args.corners in
    let yes : c.fits.result ≡ true = search rules in
    let all = sym yes ∙ c.fits.ensures corners c.in-Ok.ensures.extent in
    rw c.right_bottom.ensures (corners_fit c.box_law.ensures c.in-Ok.plane corners s shows c.limits_law.ensures c.in-Ok.ensures.extent all).1
