use Rattle.std.proofs.Common.{◌+◌, suc, [], ◌∷◌, ap, arith, ◌∙◌}
use Rattle.mapping.specs.PageMap.{map_numbers}
use Rattle.point_views.specs.Points.{points_of}
use Rattle.dc_stack.specs.Extents.{IsPlaneBox}
use Rattle.dc_stack.specs.Mapped.{mapped_list, mapped_point}
use Rattle.dc_stack.proofs.LandingLemmas.{first_point_off, later_off}
use Rattle.dc_stack.proofs.LandingLemmas.{past_limit, within_limit}
use Rattle.dc_stack.proofs.ListLemmas.{never_too_many}
use Rattle.dc_stack.proofs.PlaneBoxLemmas.{point_plane_box}
use Rattle.dc_stack.proofs.placing.plane_lines.Goals as goal

pub returns-then-len-ge-MAX_EDGES-clause-rejected : goal.returns-then-len-ge-MAX_EDGES-clause-rejected
returns-then-len-ge-MAX_EDGES-clause-rejected c = λ s shows.
    past_limit (map_numbers c.args.map.now) (c.args.start ∷ points_of c.args.points) s (suc c.len.result) (ap suc c.len.ensures) (omega arith)

pub returns-in-Err-clause-rejected : goal.returns-in-Err-clause-rejected
returns-in-Err-clause-rejected c = λ s shows.
    let map = map_numbers c.args.map.now in
    let points = points_of c.args.points in
    let few = within_limit map (c.args.start ∷ points) s (suc c.len.result) (ap suc c.len.ensures) (omega arith) in
    first_point_off s (mapped_point map c.args.start) (mapped_list map points) c.in-Err.fault (c.in-Err.ensures.off s shows) ∙ few

pub returns-in-Err-plane_box-clause-rejected : goal.returns-in-Err-plane_box-clause-rejected
returns-in-Err-plane_box-clause-rejected c = λ s shows.
    let map = map_numbers c.args.map.now in
    let points = points_of c.args.points in
    let few = within_limit map (c.args.start ∷ points) s (suc c.len.result) (ap suc c.len.ensures) (omega arith) in
    later_off s (mapped_point map c.args.start) (mapped_list map points) c.in-Err-plane_box.fault (c.in-Err-plane_box.ensures.off s shows) ∙ few

pub returns-in-Ok-plane_box-clause-few : goal.returns-in-Ok-plane_box-clause-few
returns-in-Ok-plane_box-clause-few c = never_too_many (c.len-in-Ok-plane_box.result + 1) (omega (arith, c.len.ensures, c.len-in-Ok-plane_box.ensures))

pub returns-in-Ok-plane_box-clause-extent : goal.returns-in-Ok-plane_box-clause-extent
returns-in-Ok-plane_box-clause-extent c =
    let map = map_numbers c.args.map.now in
    let start = mapped_point map c.args.start in
    let points = mapped_list map (points_of c.args.points) in
    let first : IsPlaneBox c.around.result (start ∷ []) = rw (c.around.ensures, ← c.in-Ok.ensures.plane) (point_plane_box c.box_law.ensures c.in-Ok.from c.in-Ok.ensures.on) in
    c.joined.ensures (start ∷ []) points first c.in-Ok-plane_box.ensures.extent
