use Rattle.std.proofs.Common.{◌||◌, ◌==◌, ℕ, List, ap, sym, ◌∙◌}
use Rattle.std.proofs.lemmas.List.{with_items_is}
use Rattle.painting.specs.VisitedMask.{VisitedMaskState, has_bit, pixel_number}
use Rattle.painting.proofs.VisitedMaskLemmas.{is_taken_by}
use Rattle.painting.proofs.visited_mask.VisitedMask.take.Goals as goal

pub returns-clause-taken : goal.returns-clause-taken
returns-clause-taken c =
    let words = c.self.inside.words.items in
    let number = c.number_in-number.ensures.number ∙ ap (λ (s : VisitedMaskState). pixel_number s.region c.args.x c.args.y) (sym c.self.view_is) in
    let kept = with_items_is c.self.inside.words c.take_bit.new.words (c.take_bit.auto.words ∙ c.deref_mut.ensures.len) in
    rw (kept, ← c.self.view_is)
    (is_taken_by c.self.inside.region words c.take_bit.new.words c.args.x c.args.y (rw (← c.self.view_is) at c.requires)
    (λ m.
    c.take_bit.ensures.bits m ∙ ap (λ (list : List ℕ). has_bit list m || m == c.number_in-number.result) c.deref_mut.ensures.value ∙ ap (λ n. has_bit words m || m == n) number))
