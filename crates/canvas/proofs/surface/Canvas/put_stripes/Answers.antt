use Rattle.std.proofs.Common.{◌+◌, ◌-◌, refl, ap, ◌∙◌, arith, ◌%◌}
use Rattle.std.proofs.lemmas.List.{get_or_default, with_items_is}
use Rattle.canvas.specs.Rows.{row_colours}
use Rattle.canvas.proofs.CallLemmas.{helped_span}
use Rattle.canvas.proofs.FieldLemmas.{lies_inside}
use Rattle.canvas.proofs.surface.Canvas.put_stripes.Goals as goal

pub returns-clause-pixels : goal.returns-clause-pixels
returns-clause-pixels c =
    helped_span c.args.y c.args.x_from c.args.x_to c.place-start.result (c.place-start.result + (c.args.x_to - c.args.x_from) - c.place-start.result) c.self.inside.stride _ _ c.args.self.now _ c.deref_mut.result.now c.fill_with_stripes.new.part c.self.view_is
    record { order = c.requires.columns; within = c.requires.width; from_first = c.requires.row.from_first; to_last = c.requires.row.to_last }
    (lies_inside c.self.inside _ c.self.invariant c.deref_mut.ensures.value)
    c.place-start.ensures
    (omega arith)
    c.fill_with_stripes.auto.part
    (λ j d h. c.fill_with_stripes.ensures j d h ∙ get_or_default c.args.stripes.now.twice ((c.args.x_from + j) % 8) d _ (let t = c.told-stripes in omega arith))
    (λ long. ap (row_colours c.self.inside.rows c.self.inside.width c.self.inside.stride) (with_items_is c.self.inside.colours _ (long ∙ c.deref_mut.ensures.len)))
    (omega arith) refl refl refl refl
