use Rattle.std.proofs.Common.{◌≡◌, ℕ, ◌+◌, true, arith, ap, refl, ◌∙◌}
use Rattle.span_fill.specs.Spans.{in_span, in_spans}
use Rattle.span_fill.specs.declared.span.Region.{Region}
use Rattle.painting.specs.Parts.{part_has}
use Rattle.painting.specs.RowPainters.{painter_paint}
use Rattle.painting.specs.Strips.{is_uncut}
use Rattle.painting.proofs.RegionLemmas.{row_added, rows_begun, rows_done}
use Rattle.painting.proofs.RowLemmas.{apart_within, few_written, spans_are}
use Rattle.painting.proofs.SourceLemmas.{nothing_read}
use Rattle.painting.proofs.outline_rows.paint_rows.Goals as goal

pub loop-y-init : goal.loop-y-init
loop-y-init c =
    let begun = c.requires.begun in
    let region : Region = record { columns = c.args.painter.now.columns; rows = c.args.span } in
    record {
      lines = refl;
      work = begun.work;
      next = begun.next;
      capacity = refl;
      clip = refl;
      row_ops = refl;
      painted = rows_begun (painter_paint c.args.painter.now) (part_has c.args.part c.args.scratch.now.rows.lines) c.args.canvas.now c.writing_law.ensures c.whole_law.ensures.whole region begun.visible;
    }

pub loop-y-preserved : goal.loop-y-preserved
loop-y-preserved c =
    let begun = c.requires.begun in
    let paint = painter_paint c.args.painter.now in
    let shape = part_has c.args.part c.args.scratch.now.rows.lines in
    let region : Region = record { columns = c.args.painter.now.columns; rows = c.args.span } in
    let held = begun.visible.held in
    let inv = c.loop-y.invariant in
    let same = c.next_row.ensures.same in
    let low = c.loop-y.auto.y in
    let high = c.loop-y-test.true in
    let top = held.top in
    let bottom = held.bottom in
    let spans = c.next_row.new.rows.spans in
    let row = rw (inv.lines, inv.next) at c.next_row.ensures.spans in
    let painted = c.put_row.ensures.painted in
    let seen = c.uncut_part-row_painter in
    let uncut = rw c.cut_boxes.ensures at seen.ensures.all in
    let within : (x : ℕ) → in_spans spans x ≡ true → is_uncut paint.clip.cuts x c.loop-y.y ≡ true → in_span seen.result x ≡ true = λ x h not_cut. uncut x (c.hull.ensures.all x (rw c.spans-spans.ensures h)) not_cut in
    record {
      lines = same.lines ∙ inv.lines;
      work = same.work ∙ inv.work;
      next = c.next_row.ensures.next ∙ ap (λ n. n + 1) inv.next;
      capacity = same.capacity ∙ inv.capacity;
      painted = row_added paint shape c.args.canvas.now c.writing_law.ensures c.whole_law.ensures.whole region begun.visible
          c.loop-y.canvas c.put_row.new.canvas c.loop-y.y painted.row_op (in_spans spans) seen.result
          (λ x. spans_are region.columns spans (λ n. shape n c.loop-y.y) x row)
          (rw (inv.clip, inv.row_ops) at painted.is_row_op) within low high (record { from_first = omega (arith, low, top); to_last = omega (arith, high, bottom) })
          inv.painted (rw (c.spans-spans.ensures, inv.clip) at painted.painted);
      clip = inv.clip;
      row_ops = inv.row_ops;
    }

pub put_row-requires-clause-spans : goal.put_row-requires-clause-spans
put_row-requires-clause-spans c =
    let inv = c.loop-y.invariant in
    let columns = c.args.painter.now.columns in
    let row = rw (inv.lines, inv.next) at c.next_row.ensures.spans in
    let right = c.requires.begun.visible.held.right in
    let width = inv.painted.painted.width in
    rw c.spans-spans.ensures (apart_within columns.from columns.to 0 c.loop-y.canvas.width c.next_row.new.rows.spans (omega arith) (omega (arith, right, width)) row.apart)

pub put_row-requires-clause-countable : goal.put_row-requires-clause-countable
put_row-requires-clause-countable c =
    let painted = c.loop-y.invariant.painted.painted in
    let few = few_written c.writing_law.ensures _ _ c.args.canvas.now c.loop-y.canvas painted c.whole_law.ensures.pixels in
    let width = painted.width in
    let side = c.whole_law.ensures.side in
    let countable = c.requires.countable in
    omega (arith, few, width, side, countable)

pub put_row-requires-clause-row : goal.put_row-requires-clause-row
put_row-requires-clause-row c =
    let held = c.requires.begun.visible.held in
    let low = c.loop-y.auto.y in
    let high = c.loop-y-test.true in
    let top = held.top in
    let bottom = held.bottom in
    let first = c.loop-y.invariant.painted.painted.first in
    let rows = c.loop-y.invariant.painted.painted.rows in
    record { from_first = omega (arith, low, top, first); to_last = omega (arith, high, bottom, first, rows) }

pub returns-clause-few : goal.returns-clause-few
returns-clause-few c = few_written c.writing_law.ensures _ _ c.args.canvas.now c.loop-y.canvas c.loop-y.invariant.painted.painted c.whole_law.ensures.pixels

pub returns-clause-pixels : goal.returns-clause-pixels
returns-clause-pixels c =
    let region : Region = record { columns = c.args.painter.now.columns; rows = c.args.span } in
    rows_done (painter_paint c.args.painter.now) (part_has c.args.part c.args.scratch.now.rows.lines) c.args.canvas.now c.writing_law.ensures c.whole_law.ensures.whole region c.requires.begun.visible
    c.loop-y.canvas c.loop-y.y c.loop-y-test.false c.loop-y.invariant.painted

pub put_row-requires-clause-read : goal.put_row-requires-clause-read
put_row-requires-clause-read c = rw c.loop-y.invariant.row_ops (nothing_read c.args.painter.now.row_ops c.uncut_part-row_painter.result c.loop-y.y _ c.requires.alone)

pub hull-requires : goal.hull-requires
hull-requires c =
    let inv = c.loop-y.invariant in
    let columns = c.args.painter.now.columns in
    let row = rw (inv.lines, inv.next) at c.next_row.ensures.spans in
    let right = c.requires.begun.visible.held.right in
    let side = c.whole_law.ensures.side in
    record { apart = rw c.spans-spans.ensures (apart_within columns.from columns.to 0 8192 c.next_row.new.rows.spans (omega arith) (omega (arith, right, side)) row.apart) }
