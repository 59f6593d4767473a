use Rattle.std.proofs.Common.{◌≡◌, ◌+◌, ◌-◌, length, refl, ap, ◌∙◌, arith}
use Rattle.std.proofs.lemmas.List.{with_items_is}
use Rattle.canvas.specs.Rows.{row_colours}
use Rattle.canvas.proofs.CallLemmas.{helped_span}
use Rattle.canvas.proofs.FieldLemmas.{lies_inside}
use Rattle.canvas.proofs.surface.Canvas.mix_row.Goals as goal

pub returns-clause-pixels : goal.returns-clause-pixels
returns-clause-pixels c =
    let from = c.args.x_from in
    let keeps = c.args.keeps.now in
    helped_span c.args.y from (from + length keeps) c.place-start.result (c.place-start.result + length keeps - c.place-start.result) c.self.inside.stride _ _ c.args.self.now _ c.deref_mut.result.now c.mix_all_by.new.part c.self.view_is
    record { order = omega arith; within = c.requires.width; from_first = c.requires.row.from_first; to_last = c.requires.row.to_last }
    (lies_inside c.self.inside _ c.self.invariant c.deref_mut.ensures.value)
    c.place-start.ensures
    (omega arith)
    c.mix_all_by.auto.part
    (λ j d h. let at : from + j - from ≡ j = omega arith in rw at (c.mix_all_by.ensures j d h))
    (λ long. ap (row_colours c.self.inside.rows c.self.inside.width c.self.inside.stride) (with_items_is c.self.inside.colours _ (long ∙ c.deref_mut.ensures.len)))
    (omega arith) refl refl refl refl
