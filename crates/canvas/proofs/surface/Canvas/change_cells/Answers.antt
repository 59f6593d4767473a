use Rattle.std.proofs.Common.{◌+◌, ◌-◌, refl, ap, ◌∙◌, arith}
use Rattle.std.proofs.lemmas.List.{with_items_is}
use Rattle.canvas.specs.Rows.{row_colours}
use Rattle.canvas.proofs.CallLemmas.{helped_cells}
use Rattle.canvas.proofs.FieldLemmas.{lies_inside}
use Rattle.canvas.proofs.surface.Canvas.change_cells.Goals as goal

pub returns-clause-pixels : goal.returns-clause-pixels
returns-clause-pixels g c =
    helped_cells c.args.span.y c.args.span.from c.args.span.to c.place-start.result (c.place-start.result + (c.args.span.to - c.args.span.from) - c.place-start.result) c.self.inside.stride c.args.cells c.change_cells_of-count.result (g.C.PixelChange.made c.args.change) _ c.args.self.now _ c.deref_mut.result.now c.change_cells_of-count.new.part c.self.view_is
    record { order = c.requires.columns; within = c.requires.width; from_first = c.requires.row.from_first; to_last = c.requires.row.to_last }
    (lies_inside c.self.inside _ c.self.invariant c.deref_mut.ensures.value)
    c.place-start.ensures
    (omega arith)
    c.change_cells_of-count.auto.part
    c.change_cells_of-count.ensures.colours
    c.change_cells_of-count.ensures.count
    (λ long. ap (row_colours c.self.inside.rows c.self.inside.width c.self.inside.stride) (with_items_is c.self.inside.colours _ (long ∙ c.deref_mut.ensures.len)))
    refl refl refl refl refl
