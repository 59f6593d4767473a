use Rattle.std.proofs.Common.{arith}
use Rattle.point_views.specs.Points.{points_of}
use Rattle.dc_stack.proofs.ListLemmas.{end_at, has_points}
use Rattle.dc_stack.proofs.machine.marking.end_of.Goals as goal

pub returns : goal.returns
returns c =
    let some = has_points (points_of c.args.points) _ c.is_empty.ensures c.if-is_empty.false in
    end_at c.args.start (points_of c.args.points) _ _ (omega (arith, some, c.len.ensures)) c.get.ensures
