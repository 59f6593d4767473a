use Rattle.std.proofs.Common.{◌≡◌, ◌∷◌}
use Rattle.point_views.specs.Points.{points_of}
use Rattle.span_fill.specs.Lines.{IsNearPoint}
use Rattle.painting.proofs.LandingLemmas.{first_lands, first_near, others_land}
use Rattle.painting.proofs.list_lines.ListLines.next_line.Goals as goal

pub at-last-requires : goal.at-last-requires
at-last-requires c =
    let lines = c.args.self.now in
    let taken = c.in-Some-split_first in
    let e : points_of lines.points ≡ taken.point ∷ points_of taken.rest = taken.ensures.points in
    first_lands lines.by taken.point (points_of taken.rest) (points_of lines.points) e lines.land

pub invariant_of-self-2 : goal.invariant_of-self-2
invariant_of-self-2 c =
    let lines = c.args.self.now in
    let taken = c.in-Some-split_first in
    let e : points_of lines.points ≡ taken.point ∷ points_of taken.rest = taken.ensures.points in
    let near : IsNearPoint c.at-last.result = rw c.at-last.ensures (first_near lines.by taken.point (points_of taken.rest) (points_of lines.points) e lines.land) in
    record { first_near = c.in-Some.cursor.first_near; last_near = near }

pub invariant_of-self-3 : goal.invariant_of-self-3
invariant_of-self-3 c =
    let lines = c.args.self.now in
    let taken = c.in-Some-split_first in
    let e : points_of lines.points ≡ taken.point ∷ points_of taken.rest = taken.ensures.points in
    record { land = others_land lines.by taken.point (points_of taken.rest) (points_of lines.points) e lines.land }
