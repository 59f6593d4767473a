use Rattle.span_fill.specs.BitRowsInside.{bit_rows_state}
use Rattle.span_fill.proofs.BitRowLemmas.{next_in_row}
use Rattle.span_fill.proofs.bit_rows.BitRows.next.Goals as goal

pub returns : goal.returns
returns c =
    let first = rw (← c.self.view_is) at c.start-start.ensures in
    rw (← c.self.view_is)
    (next_in_row (bit_rows_state c.self.inside) c.deref.result.now c.args.bit c.args.row c.args.from c.args.to c.start-start.result c.next_bit-next.result
    c.deref.ensures.value first c.next_bit-next.ensures)
