use Rattle.std.proofs.Common.{◌∙◌}
use Rattle.std.proofs.lemmas.List.{with_items_is}
use Rattle.painting.proofs.VisitedMaskLemmas.{none_is_taken}
use Rattle.painting.proofs.visited_mask.VisitedMask.begin.Goals as goal

pub returns-clause-none : goal.returns-clause-none
returns-clause-none c =
    let kept = with_items_is c.self.inside.words c.clear.new.words (c.clear.auto.words ∙ c.deref_mut.ensures.len) in
    λ held. rw kept (none_is_taken c.args.region c.clear.new.words (λ n below. c.clear.ensures.clear n (rw c.pixels-count.ensures below)))
