use Rattle.std.proofs.Common.{◌≡◌, [], length, arith, rules}
use Rattle.std.proofs.lemmas.Grind.{common_steps}
use Rattle.std.specs.Prelude.{min}
use Rattle.point_views.specs.Points.{points_of}
use Rattle.point_views.specs.Polys.{lists_of}
use Rattle.dc_stack.specs.Drawing.{points_of_lists}
use Rattle.preflight_cert.specs.Outlines.{open_lines_of}
use Rattle.painting.proofs.CountLemmas.{none_left, one_is_left, one_list_counted, open_lines_of_few}
use Rattle.painting.proofs.EmptyListLemmas.{counted_after, fewer_after}
use Rattle.painting.proofs.placed_lines.count_open.Goals as goal

pub overflow_sub-count : goal.overflow_sub-count
overflow_sub-count c =
    let less : c.min-count.result ≡ min (length (points_of c.in-Some.points)) 1 = grind (arith, common_steps) in
    let after = lists_of c.after_empty.result in
    let all = length (open_lines_of (lists_of c.args.lists)) in
    let counted = counted_after c.loop-points.count all after (lists_of c.loop-points.rest) c.after_empty.ensures c.loop-points.invariant in
    rw less (one_is_left c.loop-points.count all (points_of c.in-Some.points) (lists_of c.in-Some.others) after c.in-Some.ensures.lists counted)

pub loop-points-preserved : goal.loop-points-preserved
loop-points-preserved c =
    let less : c.min-count.result ≡ min (length (points_of c.in-Some.points)) 1 = grind (arith, common_steps) in
    let after = lists_of c.after_empty.result in
    let all = length (open_lines_of (lists_of c.args.lists)) in
    let counted = counted_after c.loop-points.count all after (lists_of c.loop-points.rest) c.after_empty.ensures c.loop-points.invariant in
    rw less (one_list_counted c.loop-points.count all (points_of c.in-Some.points) (lists_of c.in-Some.others) after c.in-Some.ensures.lists counted)

pub loop-points-smaller : goal.loop-points-smaller
loop-points-smaller c =
    fewer_after (points_of c.in-Some.points) (lists_of c.in-Some.others) (lists_of c.after_empty.result) (lists_of c.loop-points.rest) c.in-Some.ensures.lists c.after_empty.ensures

pub returns-clause-count : goal.returns-clause-count
returns-clause-count c =
    let after = lists_of c.after_empty.result in
    let all = length (open_lines_of (lists_of c.args.lists)) in
    let empty : after ≡ [] = first_of (search rules, grind (arith, common_steps)) in
    none_left c.loop-points.count all after empty (counted_after c.loop-points.count all after (lists_of c.loop-points.rest) c.after_empty.ensures c.loop-points.invariant)

pub returns-clause-few : goal.returns-clause-few
returns-clause-few c =
    let after = lists_of c.after_empty.result in
    let all = length (open_lines_of (lists_of c.args.lists)) in
    let empty : after ≡ [] = first_of (search rules, grind (arith, common_steps)) in
    let lines = none_left c.loop-points.count all after empty (counted_after c.loop-points.count all after (lists_of c.loop-points.rest) c.after_empty.ensures c.loop-points.invariant) in
    let few = open_lines_of_few (lists_of c.args.lists) in
    let points : c.count_points-count.result ≡ length (points_of_lists (lists_of c.args.lists)) = rw (c.count_points-count.ensures.count, c.points.ensures) in
    let least = c.count_points-count.ensures.few in
    omega arith
