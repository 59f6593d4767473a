use Rattle.std.proofs.Common.{◌*◌, ap, ◌∙◌}
use Rattle.point_views.specs.Numbers.{number_size}
use Rattle.point_views.proofs.ZeroLemmas.{counts_after_zeros}
use Rattle.point_views.proofs.counts.Counts.after_zeros.Goals as goal

pub returns : goal.returns
returns c =
    let self = c.args.self in
    let zeros = c.zeros.ensures in
    let start = c.place.ensures.place ∙ ap (λ k. number_size self.width * k) c.held_in-passed.ensures in
    counts_after_zeros self.width c.zeros.result c.place.result self.bytes.now start zeros.within zeros.zeros zeros.next
