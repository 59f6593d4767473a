use Rattle.mapping.specs.PlaceOf.{surface_of}
use Rattle.painting.proofs.LandingLemmas.{landed_fits}
use Rattle.painting.proofs.rectangles.placed_box.Goals as goal

pub at-requires : goal.at-requires
at-requires c = landed_fits (surface_of c.args.place) c.args.first c.requires.first

pub at-requires-2 : goal.at-requires-2
at-requires-2 c = landed_fits (surface_of c.args.place) c.args.second c.requires.second

pub rectangle_box-requires-clause-first : goal.rectangle_box-requires-clause-first
rectangle_box-requires-clause-first c = rw c.at.ensures (landed_fits (surface_of c.args.place) c.args.first c.requires.first)

pub rectangle_box-requires-clause-second : goal.rectangle_box-requires-clause-second
rectangle_box-requires-clause-second c = rw c.at-2.ensures (landed_fits (surface_of c.args.place) c.args.second c.requires.second)
