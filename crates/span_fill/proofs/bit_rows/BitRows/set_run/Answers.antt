use Rattle.std.proofs.Common.{ℕ, ◌∙◌, ◌+◌, ◌&&◌, ◌||◌, ◌≡◌, nat_le, nat_lt, ap, arith}
use Rattle.std.proofs.lemmas.List.{with_items_is}
use Rattle.span_fill.specs.BitRowsInside.{bit_rows_state}
use Rattle.span_fill.specs.BitWords.{word_bit}
use Rattle.span_fill.proofs.BitRowLemmas.{row_is_set}
use Rattle.span_fill.proofs.bit_rows.BitRows.set_run.Goals as goal

pub returns-clause-bits : goal.returns-clause-bits
returns-clause-bits c =
    let kept = with_items_is c.self.inside.words c.set_run.new.words (c.set_run.auto.words ∙ c.deref_mut.ensures.len) in
    let within = rw (← c.self.view_is) at c.requires.columns in
    let first = rw (← c.self.view_is) at c.start-start.ensures in
    let end : c.start-start.result + c.args.from + c.args.count ≡ c.start-start.result + (c.args.from + c.args.count) = omega arith in
    let bits = λ (n : ℕ). c.set_run.ensures n ∙ ap (λ k. word_bit c.deref_mut.result.now n || (nat_le (c.start-start.result + c.args.from) n && nat_lt n k)) end in
    rw (kept, ← c.self.view_is)
    (row_is_set (bit_rows_state c.self.inside) c.deref_mut.result.now c.set_run.new.words c.args.row c.args.from (c.args.from + c.args.count) c.start-start.result
    c.self.invariant.columns within c.deref_mut.ensures.value first bits)
