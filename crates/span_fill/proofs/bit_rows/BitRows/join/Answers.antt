use Rattle.std.proofs.Common.{◌∙◌, ap, arith, length}
use Rattle.std.proofs.lemmas.List.{with_items_is}
use Rattle.span_fill.specs.BitRowsInside.{bit_rows_state}
use Rattle.span_fill.proofs.BitRowLemmas.{rows_are_joined, rows_are_there}
use Rattle.span_fill.proofs.bit_rows.BitRows.join.Goals as goal

pub join_words-requires : goal.join_words-requires
join_words-requires c =
    let there = rows_are_there c.args.rows c.args.distance c.self.inside.rows c.self.inside.stride (rw (← c.self.view_is) at c.requires) in
    let is = ap length c.deref_mut.ensures.value in
    omega (arith, there, is, c.self.invariant.rows, c.self.invariant.words)

pub returns-clause-rows : goal.returns-clause-rows
returns-clause-rows c =
    let kept = with_items_is c.self.inside.words c.join_words.new.words (c.join_words.auto.words ∙ c.deref_mut.ensures.len) in
    rw (kept, ← c.self.view_is)
    (rows_are_joined (bit_rows_state c.self.inside) c.deref_mut.result.now c.join_words.new.words c.args.rows c.args.distance
    c.self.invariant.columns c.deref_mut.ensures.value c.join_words.ensures.joined c.join_words.ensures.others)
