use Rattle.std.proofs.Common.{add-one, arith, [], ◌∷◌}
use Rattle.std.proofs.lemmas.List.{take_all}
use Rattle.mapping.specs.Boxes.{point_box}
use Rattle.point_views.specs.Points.{points_of}
use Rattle.point_views.proofs.TakenLemmas.{taken_next}
use Rattle.point_views.proofs.points.Points.bounds.Goals as goal

pub loop-index-init : goal.loop-index-init
loop-index-init c =
    let points = points_of c.args.self in
    rw (taken_next points 0 c.get.result c.get.ensures, c.around-bounds.ensures) (c.box_law.ensures.single c.get.result)

pub loop-index-preserved : goal.loop-index-preserved
loop-index-preserved c =
    let points = points_of c.args.self in
    let i = c.loop-index.index in
    let point = c.get-in-loop-index.result in
    let alone = c.box_law.ensures.single point in
    let grown = c.box_law.ensures.joins c.loop-index.bounds (point_box point) c.with-bounds.result _ (point ∷ []) c.loop-index.invariant alone c.with-bounds.ensures in
    rw (add-one, taken_next points i c.get-in-loop-index.result c.get-in-loop-index.ensures) grown

pub returns-clause-tight : goal.returns-clause-tight
returns-clause-tight c =
    let points = points_of c.args.self in
    let whole = take_all c.loop-index.index points (omega arith) in
    rw whole at c.loop-index.invariant
