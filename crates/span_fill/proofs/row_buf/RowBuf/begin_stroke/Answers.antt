-- The lines that are kept are the outline's.
use Rattle.std.proofs.Common.{◌∙◌}
use Rattle.span_fill.proofs.row_buf.RowBuf.begin_stroke.Goals as goal

pub returns : goal.returns
returns g c =
    let kept = c.keep.ensures in
    let begun = c.begin_kept_stroke.ensures in
    record {
      lines = begun.lines ∙ kept.lines;
      work = begun.work;
      next = begun.next;
      spans = begun.spans;
      capacity = begun.capacity ∙ kept.capacity;
    }
