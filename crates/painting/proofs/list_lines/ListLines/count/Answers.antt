use Rattle.std.proofs.Common.{sym, ◌∙◌, arith}
use Rattle.point_views.specs.Points.{points_of}
use Rattle.painting.specs.PlacedLines.{projected_list}
use Rattle.painting.proofs.CountLemmas.{length-closed_cursor, length-open_cursor, length-projected_list}
use Rattle.painting.proofs.list_lines.ListLines.count.Goals as goal

pub returns-in-Some-Open-clause-count : goal.returns-in-Some-Open-clause-count
returns-in-Some-Open-clause-count c =
    let lines = c.args.self.now in
    let points = projected_list lines.by (points_of lines.points) in
    let a = length-open_cursor lines.ends lines.cursor c.in-Some-Open.field-0-0 points (cc) (cc) in
    c.count_points-count.ensures.count ∙ sym (a ∙ length-projected_list lines.by (points_of lines.points))

pub returns-in-Some-Closed-clause-count : goal.returns-in-Some-Closed-clause-count
returns-in-Some-Closed-clause-count c =
    let lines = c.args.self.now in
    let points = projected_list lines.by (points_of lines.points) in
    let a = length-closed_cursor lines.ends lines.cursor c.in-Some-Closed.field-0-0 points (cc) (cc) in
    let b = length-projected_list lines.by (points_of lines.points) in
    let e = c.count_points-count.ensures.count in
    omega arith
