use Rattle.std.proofs.Common.{◌≡◌, Bool, true, false, ◌||◌, [], ◌∷◌, refl, arith, ap, sym, ◌∙◌}
use Rattle.mapping.specs.PixelBoxes.{in_box}
use Rattle.dc_stack.specs.Values.{placed_value}
use Rattle.span_fill.specs.Spans.{in_span, in_spans}
use Rattle.painting.specs.FillStyles.{fill_style_paint}
use Rattle.painting.specs.RowPainters.{painter_paint}
use Rattle.painting.proofs.RegionLemmas.{box_row, none_seen, row_added, rows_begun, rows_done}
use Rattle.painting.proofs.RowLemmas.{few_written}
use Rattle.painting.proofs.SourceLemmas.{columns_read, narrowed}
use Rattle.painting.proofs.VisibleLemmas.{painted_same}
use Rattle.painting.proofs.filling.fill_box_by_rows.Goals as goal

-- the only span has the pixels of the spans
lone : (has : Bool) → (has || false) ≡ has
lone true = refl
lone false = refl

pub returns-then-has_no_pixel-clause-pixels : goal.returns-then-has_no_pixel-clause-pixels
returns-then-has_no_pixel-clause-pixels c =
    none_seen (fill_style_paint c.args.paint.now) (in_box c.args.inside) c.args.canvas.now c.writing_law.ensures c.whole_law.ensures.whole c.visible_in-drawn.result c.visible_in-drawn.ensures.visible (c.has_no_pixel.ensures.none c.if-has_no_pixel.true)

pub loop-y-init : goal.loop-y-init
loop-y-init c =
    let drawn = c.visible_in-drawn in
    let visible = rw (← ap placed_value c.painter-painter.ensures.clip) at drawn.ensures.visible in
    record {
      clip = refl;
      row_ops = refl;
      painted = rows_begun (painter_paint c.painter-painter.result) (in_box c.args.inside) c.args.canvas.now c.writing_law.ensures c.whole_law.ensures.whole drawn.result visible;
      held = tt;
    }

pub read_row-kept-requires-clause-reads : goal.read_row-kept-requires-clause-reads
read_row-kept-requires-clause-reads c =
    let part = c.uncut_part-painter.ensures in
    narrowed c.args.paint.now.source c.visible_in-drawn.result.columns c.uncut_part-painter.result c.loop-y.y part.first part.last
    (columns_read c.args.paint.now.source c.args.inside c.visible_in-drawn.result c.visible_in-drawn.ensures.boxed c.requires.reads (c.has_no_pixel.ensures.columns c.if-has_no_pixel.false) c.loop-y.y c.loop-y.auto.y c.loop-y-test.true)

pub loop-y-preserved : goal.loop-y-preserved
loop-y-preserved c =
    let drawn = c.visible_in-drawn in
    let visible = rw (← ap placed_value c.painter-painter.ensures.clip) at drawn.ensures.visible in
    let columns = drawn.result.columns in
    let low = c.loop-y.auto.y in
    let high = c.loop-y-test.true in
    let top = drawn.ensures.visible.held.top in
    let bottom = drawn.ensures.visible.held.bottom in
    let row = c.put_row.ensures.painted in
    let inv = c.loop-y.invariant in
    let is_row_op = rw (inv.clip, inv.row_ops) at row.is_row_op in
    let cuts = rw (c.cut_boxes.ensures, inv.clip) at c.uncut_part-painter.ensures.all in
    record {
      painted = row_added (painter_paint c.painter-painter.result) (in_box c.args.inside) c.args.canvas.now c.writing_law.ensures c.whole_law.ensures.whole drawn.result visible
          c.loop-y.canvas c.put_row.new.canvas c.loop-y.y row.row_op (in_spans (columns ∷ [])) c.uncut_part-painter.result
          (λ x. lone (in_span columns x) ∙ box_row drawn.result c.args.inside drawn.ensures.boxed x c.loop-y.y low high)
          is_row_op (λ x h uncut. cuts x (sym (lone (in_span columns x)) ∙ h) uncut) low high (record { from_first = omega (arith, low, top); to_last = omega (arith, high, bottom) })
          inv.painted (rw inv.clip at row.painted);
      clip = inv.clip;
      row_ops = inv.row_ops;
      held = rw c.put_row.ensures.sources c.read_row-kept.ensures.gathered;
    }

pub returns-clause-few : goal.returns-clause-few
returns-clause-few c = few_written c.writing_law.ensures _ _ c.args.canvas.now c.loop-y.canvas c.loop-y.invariant.painted.painted c.whole_law.ensures.pixels

pub returns-clause-pixels : goal.returns-clause-pixels
returns-clause-pixels c =
    let drawn = c.visible_in-drawn in
    let visible = rw (← ap placed_value c.painter-painter.ensures.clip) at drawn.ensures.visible in
    painted_same c.writing_law.ensures (painter_paint c.painter-painter.result) (fill_style_paint c.args.paint.now) (in_box c.args.inside) c.args.canvas.now c.loop-y.canvas c.whole_law.ensures.whole c.painter-painter.ensures.paint
    (rows_done (painter_paint c.painter-painter.result) (in_box c.args.inside) c.args.canvas.now c.writing_law.ensures c.whole_law.ensures.whole drawn.result visible c.loop-y.canvas c.loop-y.y c.loop-y-test.false c.loop-y.invariant.painted)

pub put_row-requires : goal.put_row-requires
put_row-requires c =
    let painted = c.loop-y.invariant.painted.painted in
    let few = few_written c.writing_law.ensures _ _ c.args.canvas.now c.loop-y.canvas painted c.whole_law.ensures.pixels in
    let low = c.loop-y.auto.y in
    let high = c.loop-y-test.true in
    let some = (c.has_no_pixel.ensures.columns c.if-has_no_pixel.false) in
    let held = c.visible_in-drawn.ensures.visible.held in
    let right = held.right in
    let top = held.top in
    let bottom = held.bottom in
    let side = c.whole_law.ensures.side in
    let countable = c.requires.countable in
    let width = painted.width in
    let first = painted.first in
    let rows = painted.rows in
    let inv = c.loop-y.invariant in
    let part = c.uncut_part-painter.ensures in
    let part_order = part.order in
    let part_last = part.last in
    record {
      whole = c.loop-y.invariant.painted.whole;
      spans = (omega arith, omega (arith, some), omega (arith, right, width), tt);
      row = record { from_first = omega (arith, low, top, first); to_last = omega (arith, high, bottom, first, rows) };
      countable = omega (arith, few, right, side, countable, width);
      read = rw inv.row_ops (c.painter-painter.ensures.reads c.uncut_part-painter.result c.loop-y.y _ c.read_row-kept.ensures.read);
      order = part_order;
      end = omega (arith, right, side, part_last);
      eight = rw inv.row_ops c.painter-painter.ensures.eight;
    }

pub read_row-kept-requires-clause-end : goal.read_row-kept-requires-clause-end
read_row-kept-requires-clause-end c =
    let right = c.visible_in-drawn.ensures.visible.held.right in
    let side = c.whole_law.ensures.side in
    let last = c.uncut_part-painter.ensures.last in
    omega (arith, right, side, last)
