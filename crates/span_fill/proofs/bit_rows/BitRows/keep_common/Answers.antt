use Rattle.std.proofs.Common.{◌∙◌}
use Rattle.std.proofs.lemmas.List.{with_items_is}
use Rattle.span_fill.specs.BitRowsInside.{bit_rows_state}
use Rattle.span_fill.proofs.BitRowLemmas.{row_is_common, rows_are_apart}
use Rattle.span_fill.proofs.bit_rows.BitRows.keep_common.Goals as goal

pub keep_common_bits-requires-clause-apart : goal.keep_common_bits-requires-clause-apart
keep_common_bits-requires-clause-apart c = rows_are_apart c.args.row c.args.other c.self.inside.stride

pub returns-clause-bits : goal.returns-clause-bits
returns-clause-bits c =
    let kept = with_items_is c.self.inside.words c.keep_common_bits.new.words (c.keep_common_bits.auto.words ∙ c.deref_mut.ensures.len) in
    rw (kept, ← c.self.view_is)
    (row_is_common (bit_rows_state c.self.inside) c.deref_mut.result.now c.keep_common_bits.new.words c.args.row c.args.other
    c.self.invariant.columns c.deref_mut.ensures.value c.keep_common_bits.ensures.both c.keep_common_bits.ensures.below c.keep_common_bits.ensures.above)
