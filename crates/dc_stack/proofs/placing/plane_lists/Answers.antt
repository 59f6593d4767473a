use Rattle.std.proofs.Common.{arith, length, ap, sym, ◌∙◌, subst}
use Rattle.std.proofs.lemmas.List.{length-map}
use Rattle.mapping.specs.PageMap.{map_numbers}
use Rattle.point_views.specs.Points.{points_of}
use Rattle.point_views.specs.Polys.{lists_of}
use Rattle.dc_stack.specs.Extents.{IsExtent}
use Rattle.dc_stack.specs.Mapped.{mapped_point}
use Rattle.dc_stack.specs.OperationFault.{points_fault}
use Rattle.dc_stack.proofs.LandingLemmas.{past_limit, within_limit}
use Rattle.dc_stack.proofs.ListLemmas.{never_too_many, points_mapped}
use Rattle.dc_stack.proofs.placing.plane_lists.Goals as goal

pub returns-then-len-gt-MAX_EDGES-clause-rejected : goal.returns-then-len-gt-MAX_EDGES-clause-rejected
returns-then-len-gt-MAX_EDGES-clause-rejected c = λ s shows.
    let map = map_numbers c.args.map.now in
    let points = points_of c.points-points.result in
    let all = points_mapped map points (lists_of c.args.lists) c.points-points.ensures in
    past_limit map points s c.len.result c.len.ensures c.if-len-gt-MAX_EDGES.true ∙ ap (λ ps. points_fault ps s) all

pub returns-in-Ok-clause-count : goal.returns-in-Ok-clause-count
returns-in-Ok-clause-count c =
    let map = map_numbers c.args.map.now in
    let points = points_of c.points-points.result in
    let all = points_mapped map points (lists_of c.args.lists) c.points-points.ensures in
    c.len-in-Ok.ensures ∙ sym (length-map points (mapped_point map)) ∙ ap length all

pub returns-in-Ok-clause-few : goal.returns-in-Ok-clause-few
returns-in-Ok-clause-few c = never_too_many c.len-in-Ok.result (omega (arith, c.len.ensures, c.len-in-Ok.ensures, c.if-len-gt-MAX_EDGES.false))

pub returns-in-Ok-clause-extent : goal.returns-in-Ok-clause-extent
returns-in-Ok-clause-extent c =
    let points = points_of c.points-points.result in
    let all = points_mapped (map_numbers c.args.map.now) points (lists_of c.args.lists) c.points-points.ensures in
    subst (IsExtent c.in-Ok.extent) all c.in-Ok.ensures.extent

pub returns-in-Err-clause-rejected : goal.returns-in-Err-clause-rejected
returns-in-Err-clause-rejected c = λ s shows.
    let map = map_numbers c.args.map.now in
    let points = points_of c.points-points.result in
    let all = points_mapped map points (lists_of c.args.lists) c.points-points.ensures in
    c.in-Err.ensures.off s shows ∙ within_limit map points s c.len.result c.len.ensures c.if-len-gt-MAX_EDGES.false ∙ ap (λ ps. points_fault ps s) all
