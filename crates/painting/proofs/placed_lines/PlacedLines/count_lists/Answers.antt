use Rattle.std.proofs.Common.{◌≡◌, length, sym, ◌∙◌}
use Rattle.point_views.specs.Polys.{lists_of}
use Rattle.dc_stack.specs.Drawing.{points_of_lists}
use Rattle.painting.proofs.CountLemmas.{length-closed_lists, length-open_lists}
use Rattle.painting.proofs.placed_lines.PlacedLines.count_lists.Goals as goal

pub returns-in-Open-clause-count : goal.returns-in-Open-clause-count
returns-in-Open-clause-count c =
    let lines = c.args.self.now in
    rw c.in-Open.is (c.count_open.ensures.count ∙ sym (length-open_lists lines.current.by (lists_of lines.lists)))

pub returns-in-Closed-clause-count : goal.returns-in-Closed-clause-count
returns-in-Closed-clause-count c =
    let lines = c.args.self.now in
    let points : c.count_points.result ≡ length (points_of_lists (lists_of lines.lists)) = rw (c.count_points.ensures.count, c.points.ensures) in
    rw c.in-Closed.is (points ∙ sym (length-closed_lists lines.current.by (lists_of lines.lists)))
