use Rattle.std.proofs.Common.{◌*◌, refl, arith}
use Rattle.point_views.specs.declared.numbers.NumberWidth.TheVariants.{Long}
use Rattle.point_views.proofs.PointLemmas.{points_in-taken}
use Rattle.point_views.proofs.points.Points.new32.Goals as goal

pub returns-clause-points : goal.returns-clause-points
returns-clause-points c = points_in-taken Long c.args.n (8 * c.args.n) c.args.bytes.now refl (omega arith)
