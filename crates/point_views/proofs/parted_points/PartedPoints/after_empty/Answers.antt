use Rattle.std.proofs.Common.{length, sum, sym, ap, ◌∙◌}
use Rattle.point_views.specs.Counts.{counts_of}
use Rattle.point_views.specs.Points.{points_of}
use Rattle.point_views.proofs.EmptyLemmas.{split_by-after_zeros, sum-after_zeros}
use Rattle.point_views.proofs.parted_points.PartedPoints.after_empty.Goals as goal

pub new-requires : goal.new-requires
new-requires c =
    let whole = ap sum c.counts.ensures ∙ c.args.self.complete ∙ ap length (sym c.points.ensures) in
    record { complete = ap sum c.after_zeros.ensures ∙ sum-after_zeros (counts_of c.counts.result) ∙ whole }

pub returns : goal.returns
returns c =
    let whole = ap sum c.counts.ensures ∙ c.args.self.complete ∙ ap length (sym c.points.ensures) in
    let lists = split_by-after_zeros (counts_of c.counts.result) (points_of c.points.result) whole in
    rw (c.new.ensures, c.after_zeros.ensures, sym c.counts.ensures, sym c.points.ensures) lists
