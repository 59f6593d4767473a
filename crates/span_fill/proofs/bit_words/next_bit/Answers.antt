use Rattle.std.proofs.Common.{rules, arith, inl, inr}
use Rattle.std.proofs.lemmas.Bool.{cases_lt}
use Rattle.span_fill.proofs.BitWordLemmas.{count_is_small, first_in_rest, none_in_rest}
use Rattle.span_fill.proofs.bit_words.next_bit.Goals as goal

pub overflow_add-at : goal.overflow_add-at
overflow_add-at c =
    let small = count_is_small c.args.words.now c.args.bit c.loop-at.at c.bits_that_are.result (search rules) c.bits_that_are.ensures c.if-rest-ne0.true in
    search (rules, small)

pub returns-then-rest-ne0 : goal.returns-then-rest-ne0
returns-then-rest-ne0 c =
    first_in_rest c.args.words.now c.args.bit c.loop-at.at c.bits_that_are.result (search rules) c.bits_that_are.ensures c.if-rest-ne0.true
    c.args.from c.args.to c.min.result c.loop-at.invariant.low c.loop-at-test.true c.loop-at.invariant.none_before c.min.ensures

pub loop-at-preserved : goal.loop-at-preserved
loop-at-preserved c =
    let none = none_in_rest c.args.words.now c.args.bit c.loop-at.at c.bits_that_are.result (search rules) c.bits_that_are.ensures c.if-rest-ne0.false in
    record {
      low = omega arith;
      none_before = λ m above below within.
          elim (cases_lt m c.loop-at.at) [ inl passed ↦ c.loop-at.invariant.none_before m above passed within | inr there ↦ none m there below ];
    }
