use Rattle.std.proofs.Common.{length, ap, sym, ◌∙◌}
use Rattle.std.proofs.lemmas.List.{length-map}
use Rattle.mapping.specs.PageMap.{map_numbers}
use Rattle.point_views.specs.PartedPoints.{parts_of}
use Rattle.point_views.specs.Points.{points_of}
use Rattle.dc_stack.specs.Mapped.{mapped_point}
use Rattle.dc_stack.proofs.ListLemmas.{points_mapped}
use Rattle.dc_stack.proofs.point_count.count_of.Goals as goal

pub returns-in-Lists : goal.returns-in-Lists
returns-in-Lists c =
    let map = map_numbers c.args.piece.now.map in
    let points = points_of c.points.result in
    rw c.in-Lists.is (c.len-in-Lists.ensures ∙ sym (length-map points (mapped_point map)) ∙ ap length (points_mapped map points (parts_of c.in-Lists.parted) c.points.ensures))
