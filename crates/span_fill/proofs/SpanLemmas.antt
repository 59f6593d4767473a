-- What a span has between two numbers.
use Rattle.std.proofs.Common.{◌≡◌, ◌<◌, ◌≤◌, ◌&&◌, ◌↔◌, ℕ, ℤ, pos, ◌≤ℤ◌, ◌<ℤ◌, true, arith, nat_le, nat_lt, sym, ◌∙◌}
use Rattle.std.proofs.lemmas.Bool.{and_from, and_parts, le-leb, leb-true, lt-ltb, ltb-true}
use Rattle.std.proofs.lemmas.Int.{ints, by_lt_z}
use Rattle.mapping.specs.PixelBoxes.{from_to_from, from_to_true, is_from_to}
use Rattle.mapping.specs.TestLaws.{same_test}
use Rattle.span_fill.specs.Clips.{IsIn}
use Rattle.span_fill.specs.Spans.{in_span}
use Rattle.span_fill.specs.declared.span.Span.{Span}

-- what a span has, as a fact and as a test
pub is_in : (span : Span) (n : ℕ) → in_span span n ≡ true → IsIn span n
is_in span n test =
    let parts = and_parts (nat_le span.from n) (nat_lt n span.to) test in (leb-true span.from n parts.0, ltb-true n span.to parts.1)

pub in_from : (span : Span) (n : ℕ) → IsIn span n → in_span span n ≡ true
in_from span n is = and_from (nat_le span.from n) (nat_lt n span.to) (le-leb span.from n is.0) (lt-ltb n span.to is.1)

-- the numbers before an end are those that lie before a number, from the least on and up to before the most
abbrev ReportsBefore : ℕ → ℕ → ℕ → ℤ → Type 0
ReportsBefore least most end number = (n : ℕ) → least ≤ n → n < most → (n < end) ↔ (pos n <ℤ number)

pub between_two : (span : Span) (first last : ℕ) (from to : ℤ) (n : ℕ) → span.from ≤ first → first ≤ last → last ≤ span.to
    → ReportsBefore span.from span.to first from → ReportsBefore first span.to last to
    → in_span (record { from = first; to = last }) n ≡ (in_span span n && is_from_to from to n)
between_two span first last from to n low order high starts ends = same_test _ _
    (λ test.
    let here = is_in (record { from = first; to = last }) n test in
    let a = here.0 in
    let b = here.1 in
    let inside : IsIn span n = (omega (arith, low, a), omega (arith, high, b)) in
    let start = (starts n inside.0 inside.1).1 in
    let above : from ≤ℤ pos n = by_lt_z (pos n) from (λ (g : pos n <ℤ from). let before = start g in absurd (omega (arith, before, a))) (λ (g : from ≤ℤ pos n). g) in
    and_from _ _ (in_from span n inside) (from_to_from from to n above ((ends n a inside.1).0 b)))
    (λ test.
    let parts = and_parts (in_span span n) (is_from_to from to n) test in
    let inside = is_in span n parts.0 in
    let range = from_to_true from to n parts.1 in
    let start = (starts n inside.0 inside.1).0 in
    let a : first ≤ n = by_order n first (λ g. let before = start g in let above = range.0 in absurd (omega (arith, ints, before, above))) in
    in_from (record { from = first; to = last }) n (a, (ends n a inside.1).1 range.1))
  where
    by_order : (k m : ℕ) → (k < m → m ≤ k) → m ≤ k
    by_order k m h = by_lt_z (pos k) (pos m) (λ (g : pos k <ℤ pos m). h (omega (arith, ints, g))) (λ (g : pos m ≤ℤ pos k). omega (arith, ints, g))

-- the same, as facts
pub is_between : (span part : Span) (from to : ℤ) (n : ℕ) → in_span part n ≡ (in_span span n && is_from_to from to n)
    → (IsIn part n ↔ (IsIn span n × (from ≤ℤ pos n) × (pos n <ℤ to)))
is_between span part from to n same = (
  λ is.
      let parts = and_parts (in_span span n) (is_from_to from to n) (sym same ∙ in_from part n is) in
      let range = from_to_true from to n parts.1 in
      (is_in span n parts.0, range.0, range.1),
  λ is. is_in part n (same ∙ and_from _ _ (in_from span n is.0) (from_to_from from to n is.1 is.2)),
)
