use Rattle.std.proofs.Common.{sym, ap, ◌∙◌}
use Rattle.mapping.specs.PlaceOf.{surface_of}
use Rattle.mapping.specs.PlacingLaws.{ShowsFrame}
use Rattle.dc_stack.specs.Pieces.{page_points}
use Rattle.dc_stack.specs.Placing.{plane_list}
use Rattle.dc_stack.proofs.LandingLemmas.{off_unless}
use Rattle.dc_stack.proofs.piece_landing.land_piece.Goals as goal

pub returns-then-fits-clause-fault : goal.returns-then-fits-clause-fault
returns-then-fits-clause-fault c =
    ap off_unless (sym c.if-fits.true ∙ c.fits.ensures (plane_list c.args.by.now.map (page_points c.args.points)) c.in-Ok.ensures.page)

pub returns-else-fits-clause-fault : goal.returns-else-fits-clause-fault
returns-else-fits-clause-fault c =
    ap off_unless (sym c.if-fits.false ∙ c.fits.ensures (plane_list c.args.by.now.map (page_points c.args.points)) c.in-Ok.ensures.page)

pub returns-in-Err-clause-fault : goal.returns-in-Err-clause-fault
returns-in-Err-clause-fault c =
    let place = c.args.by.now.place in
    let shows : ShowsFrame (surface_of place) = record { wide = place.frame.wide; high = place.frame.high } in
    c.in-Err.ensures.off (surface_of place) shows
