use Rattle.std.proofs.Common.{◌≤◌, ◌/◌, length, arith}
use Rattle.point_views.specs.Numbers.{point_size}
use Rattle.point_views.proofs.PointLemmas.{points_in-part, length-points_in}
use Rattle.point_views.proofs.points.Points.part.Goals as goal

pub returns : goal.returns
returns c =
    let self = c.args.self in
    let count = length self.bytes.now / point_size self.width in
    let within : c.args.to ≤ count = omega (arith, length-points_in self.width count self.bytes.now) in
    points_in-part self.width count c.args.from c.args.to _ _ self.bytes.now c.requires.order within c.place.ensures.place c.place-2.ensures.place c.place-2.ensures.within
