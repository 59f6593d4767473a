use Rattle.std.proofs.Common.{◌≡◌, ◌+◌, ◌-◌, length, refl, sym, ap, ◌∙◌, arith}
use Rattle.std.proofs.lemmas.List.{get_or_default, with_items_is}
use Rattle.canvas.specs.Rows.{row_colours}
use Rattle.canvas.proofs.CallLemmas.{wrote_span}
use Rattle.canvas.proofs.FieldLemmas.{lies_inside}
use Rattle.canvas.proofs.surface.Canvas.put_row.Goals as goal

pub returns-clause-pixels : goal.returns-clause-pixels
returns-clause-pixels c =
    let from = c.args.x_from in
    let inks = c.args.inks.now in
    let borrowed = c.deref_mut.result.now in
    let made = c.copy_from_slice.ensures.after in
    let count : from + length inks - from ≡ length inks = omega arith in
    wrote_span c.args.y from (from + length inks) c.place-start.result (c.place-start.result + length inks - c.place-start.result) c.self.inside.stride _ _ c.args.self.now _ borrowed c.copy_from_slice.new.self c.self.view_is
    record { order = omega arith; within = c.requires.width; from_first = c.requires.row.from_first; to_last = c.requires.row.to_last }
    (lies_inside c.self.inside _ c.self.invariant c.deref_mut.ensures.value)
    c.place-start.ensures
    (omega arith)
    (ap length made ∙ sym count)
    (λ j d h. let at : from + j - from ≡ j = omega arith in rw (made, at) (get_or_default inks j d _ (omega arith)))
    (λ long. ap (row_colours c.self.inside.rows c.self.inside.width c.self.inside.stride) (with_items_is c.self.inside.colours _ (long ∙ c.deref_mut.ensures.len)))
    (omega arith) refl refl refl refl
