use Rattle.std.proofs.Common.{◌∙◌}
use Rattle.std.proofs.lemmas.List.{with_items_is}
use Rattle.span_fill.specs.BitRowsInside.{bit_rows_state}
use Rattle.span_fill.proofs.BitRowLemmas.{row_is_cleared}
use Rattle.span_fill.proofs.bit_rows.BitRows.clear.Goals as goal

pub returns-clause-bits : goal.returns-clause-bits
returns-clause-bits c =
    let kept = with_items_is c.self.inside.words c.clear_bits.new.words (c.clear_bits.auto.words ∙ c.deref_mut.ensures.len) in
    let within = rw (← c.self.view_is) at c.requires.columns in
    let first = rw (← c.self.view_is) at c.start-start.ensures in
    rw (kept, ← c.self.view_is)
    (row_is_cleared (bit_rows_state c.self.inside) c.deref_mut.result.now c.clear_bits.new.words c.args.row c.args.from c.args.to c.start-start.result
    c.self.invariant.columns within c.deref_mut.ensures.value first c.clear_bits.ensures)
