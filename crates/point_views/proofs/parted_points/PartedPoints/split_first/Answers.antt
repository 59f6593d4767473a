use Rattle.std.proofs.Common.{length, sum, sym, ap, ◌∙◌}
use Rattle.point_views.specs.Counts.{counts_of}
use Rattle.point_views.specs.Points.{points_of}
use Rattle.point_views.proofs.SplitLemmas.{sum_of_rest, split_by-first}
use Rattle.point_views.proofs.parted_points.PartedPoints.split_first.Goals as goal

pub new-rest-requires : goal.new-rest-requires
new-rest-requires c =
    let complete = ap sum c.counts-counts.ensures ∙ c.args.self.complete ∙ ap length (sym c.points-points.ensures) in
    let sums = sum_of_rest (counts_of c.counts-counts.result) (points_of c.points-points.result) c.get-end.result c.len.result c.get-end.ensures c.len.ensures complete in
    record { complete = ap sum c.after_first.ensures ∙ sums ∙ ap length (sym c.part-after.ensures) }

pub returns : goal.returns
returns c =
    let lists = split_by-first (counts_of c.counts-counts.result) (points_of c.points-points.result) c.get-end.result c.len.result c.get-end.ensures c.len.ensures in
    rw (c.new-rest.ensures, c.part.ensures, c.after_first.ensures, c.part-after.ensures, sym c.counts-counts.ensures, sym c.points-points.ensures) lists
