use Rattle.std.proofs.Common.{◌+◌, ◌-◌, refl, ap, ◌∙◌, arith}
use Rattle.std.proofs.lemmas.List.{with_items_is}
use Rattle.canvas.specs.Rows.{row_colours}
use Rattle.canvas.proofs.CallLemmas.{helped_span}
use Rattle.canvas.proofs.FieldLemmas.{lies_inside}
use Rattle.canvas.proofs.surface.Canvas.change_columns.Goals as goal

pub returns-clause-pixels : goal.returns-clause-pixels
returns-clause-pixels g c =
    helped_span c.args.span.y c.args.span.from c.args.span.to c.place-start.result (c.place-start.result + (c.args.span.to - c.args.span.from) - c.place-start.result) c.self.inside.stride (λ x y old. g.C.PartChange.made c.args.change.now old) _ c.args.self.now _ c.deref_mut.result.now c.change.new.part c.self.view_is
    record { order = c.requires.columns; within = c.requires.width; from_first = c.requires.row.from_first; to_last = c.requires.row.to_last }
    (lies_inside c.self.inside _ c.self.invariant c.deref_mut.ensures.value)
    c.place-start.ensures
    (omega arith)
    c.change.auto.part
    c.change.ensures
    (λ long. ap (row_colours c.self.inside.rows c.self.inside.width c.self.inside.stride) (with_items_is c.self.inside.colours _ (long ∙ c.deref_mut.ensures.len)))
    (omega arith) refl refl refl refl
