-- The table has what is inside, so rows may be taken from it.
use Rattle.span_fill.proofs.row_buf.RowBuf.turn_to_table.Goals as goal

pub put-requires-clause-near : goal.put-requires-clause-near
put-requires-clause-near c = rw c.as_slice.ensures.value c.self.invariant.near
