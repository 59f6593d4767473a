use Rattle.std.proofs.Common.{get_or, ◌≡◌, ◌<◌, ◌≤◌, ◌+◌, ◌-◌, length, subst, sym, ap, ◌∙◌, arith, List}
use Rattle.std.proofs.lemmas.Bool.{ltb-true}
use Rattle.std.proofs.lemmas.Bool.Decides.{nat_tests}
use Rattle.std.proofs.lemmas.List.{get_or_read}
use Rattle.painting.specs.Fills.{is_filling, no_columns}
use Rattle.span_fill.specs.RowState.{FillsRow, RowState, SameWork}
use Rattle.span_fill.specs.declared.span.Span.{Span}
use Rattle.painting.proofs.FillSpanLemmas.{apart_separate, listed_less, none_remain, returns_listed, row_apart, same_remain}
use Rattle.painting.proofs.fill_spans.FillSpansSpanSource.step.Goals as goal

pub returns-in-Some-clause-span : goal.returns-in-Some-clause-span
returns-in-Some-clause-span c =
    let old = c.args.self.now in
    let same = c.spans.ensures in
    let there : old.returned < length old.rows.now.spans = subst (λ (spans : List Span). old.returned < length spans) same (ltb-true _ _ (sym c.in-Some.ensures.lookup.0)) in
    let at : c.in-Some.span.now ≡ get_or old.rows.now.spans old.returned no_columns = get_or_read old.rows.now.spans old.returned c.in-Some.span.now there (subst (λ (spans : List Span). c.in-Some.span.now ≡ get_or spans old.returned c.in-Some.span.now) same c.in-Some.ensures.lookup.1) no_columns in
    returns_listed old.rows.now old.columns old.end old.returned there old.separate (old.latest there) c.in_row.result (c.in_row.ensures.y ∙ ap (λ n. n - 1) c.next_row-y.ensures) (c.in_row.ensures.from ∙ ap (λ (s : Span). s.from) at) (c.in_row.ensures.to ∙ ap (λ (s : Span). s.to) at)

pub invariant_of-self-2 : goal.invariant_of-self-2
invariant_of-self-2 c =
    let old = c.args.self.now in
    let listed = c.next_fill.new.self in
    let back = c.in_default-next_lone_span.ensures in
    let fills : FillsRow old.rows.now.work old.rows.now.lines old.rows.now.next old.columns listed.spans = rw back at c.next_fill.ensures.spans in
    let next = c.next_fill.ensures.next in
    record {
      filling = ap is_filling (c.next_fill.ensures.same.work ∙ ap (λ (s : RowState). s.work) back) ∙ old.filling;
      order = old.order;
      side = old.side;
      last = old.last;
      within = omega arith;
      separate = apart_separate old.columns.from old.columns.to listed.spans (row_apart old.rows.now.work old.rows.now.lines old.rows.now.next old.columns listed.spans old.filling fills);
      latest = λ some. omega (arith, next);
    }

pub returns-clause-span : goal.returns-clause-span
returns-clause-span c =
    let old = c.args.self.now in
    let rows = old.rows.now in
    let listed = c.next_fill.new.self in
    let back = c.in_default-next_lone_span.ensures in
    let fills : FillsRow rows.work rows.lines rows.next old.columns listed.spans = rw back at c.next_fill.ensures.spans in
    let next : listed.next ≡ rows.next + 1 = c.next_fill.ensures.next ∙ ap (λ (s : RowState). s.next + 1) back in
    let same : SameWork rows listed = rw back at c.next_fill.ensures.same in
    let none = c.in_default.ensures.lookup.0 in
    let all : length rows.spans ≤ old.returned = subst (λ (spans : List Span). length spans ≤ old.returned) c.spans.ensures (grind (arith, nat_tests, none)) in
    let more : rows.next < old.end = subst (λ n. n < old.end) c.next_row-y.ensures c.if-y-self.false in
    record {
      same = same_remain rows listed old.columns old.end old.returned all more old.filling fills next same;
      less = listed_less rows listed old.columns old.end old.returned all more old.filling fills next same old.order old.side;
    }

pub returns-then-y-self-clause-span : goal.returns-then-y-self-clause-span
returns-then-y-self-clause-span c =
    let old = c.args.self.now in
    let none = c.in_default.ensures.lookup.0 in
    let all : length old.rows.now.spans ≤ old.returned = subst (λ (spans : List Span). length spans ≤ old.returned) c.spans.ensures (grind (arith, nat_tests, none)) in
    let over : old.end ≤ old.rows.now.next = subst (λ n. old.end ≤ n) c.next_row-y.ensures c.if-y-self.true in
    none_remain old.rows.now old.columns old.end old.returned all over
