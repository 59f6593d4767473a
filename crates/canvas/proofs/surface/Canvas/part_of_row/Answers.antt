use Rattle.std.proofs.Common.{arith, refl}
use Rattle.canvas.proofs.FieldLemmas.{RowOf, part_from, row_of}
use Rattle.canvas.proofs.surface.Canvas.part_of_row.Goals as goal

pub overflow_mul-start : goal.overflow_mul-start
overflow_mul-start c = let row : RowOf c.self.inside c.args.from = row_of c.self.inside _ c.self.view_is c.self.invariant c.args.from (omega arith) in omega arith

pub overflow_add-start : goal.overflow_add-start
overflow_add-start c = let row : RowOf c.self.inside c.args.from = row_of c.self.inside _ c.self.view_is c.self.invariant c.args.from (omega arith) in omega arith

pub overflow_add-result : goal.overflow_add-result
overflow_add-result c = let row : RowOf c.self.inside c.args.from = row_of c.self.inside _ c.self.view_is c.self.invariant c.args.from (omega arith) in omega arith

pub offset_bounds-deref-start : goal.offset_bounds-deref-start
offset_bounds-deref-start c = let row : RowOf c.self.inside c.args.from = row_of c.self.inside _ c.self.view_is c.self.invariant c.args.from (omega arith) in omega arith

pub slice_bounds-result-end : goal.slice_bounds-result-end
slice_bounds-result-end c = let row : RowOf c.self.inside c.args.from = row_of c.self.inside _ c.self.view_is c.self.invariant c.args.from (omega arith) in omega arith

pub returns-clause-part : goal.returns-clause-part
returns-clause-part c =
    part_from c.self.inside _ c.self.view_is c.self.invariant c.args.from (omega arith)
    _ _ c.min-count.result c.deref.result.now c.deref.ensures.value refl (omega arith) (omega arith)
