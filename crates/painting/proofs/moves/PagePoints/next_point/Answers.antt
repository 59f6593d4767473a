use Rattle.std.proofs.Common.{◌≡◌, ◌∷◌}
use Rattle.point_views.specs.Points.{points_of}
use Rattle.painting.proofs.LandingLemmas.{first_lands, first_near, others_land}
use Rattle.painting.proofs.moves.PagePoints.next_point.Goals as goal

pub at-placed-requires : goal.at-placed-requires
at-placed-requires c =
    let list = c.args.self.now in
    let taken = c.in_ok-point in
    let e : points_of list.points ≡ taken.point ∷ points_of taken.rest = taken.ensures.points in
    first_lands list.by taken.point (points_of taken.rest) (points_of list.points) e list.land

pub invariant_of-self : goal.invariant_of-self
invariant_of-self c =
    let list = c.args.self.now in
    let taken = c.in_ok-point in
    let e : points_of list.points ≡ taken.point ∷ points_of taken.rest = taken.ensures.points in
    record { land = others_land list.by taken.point (points_of taken.rest) (points_of list.points) e list.land }

pub returns-clause-near : goal.returns-clause-near
returns-clause-near c =
    let list = c.args.self.now in
    let taken = c.in_ok-point in
    let e : points_of list.points ≡ taken.point ∷ points_of taken.rest = taken.ensures.points in
    rw c.at-placed.ensures (first_near list.by taken.point (points_of taken.rest) (points_of list.points) e list.land)
