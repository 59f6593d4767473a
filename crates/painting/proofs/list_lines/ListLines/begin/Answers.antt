use Rattle.std.proofs.Common.{◌≡◌, ◌∷◌}
use Rattle.point_views.specs.Points.{points_of}
use Rattle.span_fill.specs.Lines.{IsNearPoint}
use Rattle.painting.proofs.LandingLemmas.{first_lands, first_near, others_land}
use Rattle.painting.proofs.list_lines.ListLines.begin.Goals as goal

pub at-first-requires : goal.at-first-requires
at-first-requires c =
    let e : points_of c.args.points ≡ c.in-Some.first ∷ points_of c.in-Some.rest = c.in-Some.ensures.points in
    first_lands c.args.self.now.by c.in-Some.first (points_of c.in-Some.rest) (points_of c.args.points) e c.requires

pub invariant_of-self-2 : goal.invariant_of-self-2
invariant_of-self-2 c =
    let e : points_of c.args.points ≡ c.in-Some.first ∷ points_of c.in-Some.rest = c.in-Some.ensures.points in
    let near : IsNearPoint c.at-first.result = rw c.at-first.ensures (first_near c.args.self.now.by c.in-Some.first (points_of c.in-Some.rest) (points_of c.args.points) e c.requires) in
    record { first_near = near; last_near = near }

pub invariant_of-self-3 : goal.invariant_of-self-3
invariant_of-self-3 c =
    let e : points_of c.args.points ≡ c.in-Some.first ∷ points_of c.in-Some.rest = c.in-Some.ensures.points in
    record { land = others_land c.args.self.now.by c.in-Some.first (points_of c.in-Some.rest) (points_of c.args.points) e c.requires }
