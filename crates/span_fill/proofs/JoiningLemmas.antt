-- The spans that columns of several lines are joined to are a row of what they have.
use Rattle.std.proofs.Common.{◌≡◌, ℕ, inl, inr, suc, ◌+◌, ◌<◌, ◌≤◌, Bool, true, false, ◌&&◌, ◌||◌, nat_le, nat_lt, List, [], ◌∷◌, ◌++◌, length, get_or, drop, append_assoc, refl, sym, ap, subst, ◌∙◌, arith}
use Rattle.std.specs.List.Sorted.{IsNonDecreasingBy}
use Rattle.std.proofs.lemmas.Bool.{cases_lt, le-ltb}
use Rattle.std.proofs.lemmas.Bool.Decides.{nat_tests}
use Rattle.std.proofs.lemmas.List.{at_drop_more}
use Rattle.span_fill.specs.Joining.{BeginFrom, AreInOrder, column_after, joined}
use Rattle.span_fill.specs.Spans.{AreApart, AreRow, in_span, in_spans}
use Rattle.span_fill.specs.Sweep.{ended_spans, is_part, longer_run}
use Rattle.span_fill.specs.declared.span.Span.{Span}
use Rattle.span_fill.proofs.SweepLemmas.{in_part, in_run, in_spans-append, last_apart, longer_order, part_apart, regroup}

-- parts in order of where they begin
from_column : (column : ℕ) (parts : List Span) → ((k : ℕ) (d : Span) → k < length parts → column ≤ (get_or parts k d).from) → BeginFrom column parts
from_column column [] h = tt
from_column column (part ∷ parts) h = (h 0 part (omega arith), from_column column parts (λ k d l. h (suc k) d (omega (arith, l))))

pub in_order : (parts : List Span) → IsNonDecreasingBy (λ part. part.from) parts → AreInOrder parts
in_order [] h = tt
in_order (part ∷ parts) h =
    (from_column part.from parts (λ k d l. h 0 (suc k) d (omega arith) (omega (arith, l))), in_order parts (λ i j d k l. h (suc i) (suc j) d (omega (arith, k)) (omega (arith, l))))

-- none of them has a column before that
none_before : (column : ℕ) (parts : List Span) (x : ℕ) → BeginFrom column parts → x < column → in_spans parts x ≡ false
none_before column [] x h l = refl
none_before column (part ∷ parts) x h l = let rest = none_before column parts x h.1 l in let first = h.0 in grind (arith, nat_tests)

-- what a part adds behind the run
part_adds : (part run : Span) (end x : ℕ) (others : Bool) → run.from ≤ run.to → x < end → (x < part.from → others ≡ false) →
    ((in_span run x || (is_part true (column_after run part.from end) (column_after run part.to end) && (nat_le (column_after run part.from end) x && nat_lt x (column_after run part.to end)))) || (nat_le (longer_run true run (column_after run part.from end) (column_after run part.to end)).to x && others))
    ≡ (in_span run x || (nat_le run.to x && (in_span part x || others)))
part_adds part run end x others h l before =
    elim (cases_lt x part.from) [
      | inl g ↦ let e = before g in grind (arith, nat_tests)
      | inr g ↦ grind (arith, nat_tests)
    ]

pub joined_exact : (end : ℕ) (parts : List Span) (run : Span) → AreInOrder parts → run.from ≤ run.to → run.to ≤ end → (x : ℕ) → x < end → in_spans (joined end parts run) x ≡ (in_span run x || (nat_le run.to x && in_spans parts x))
joined_exact end [] run order h k x l = in_run run x ∙ grind (arith, nat_tests)
joined_exact end (part ∷ parts) run order h k x l =
    let from = column_after run part.from end in
    let to = column_after run part.to end in
    let a = in_spans-append (ended_spans true run from to) (joined end parts (longer_run true run from to)) x in
    let run_order : (longer_run true run from to).from ≤ (longer_run true run from to).to = grind (arith, nat_tests) in
    let run_end : (longer_run true run from to).to ≤ end = grind (arith, nat_tests) in
    let rest = joined_exact end parts (longer_run true run from to) order.1 run_order run_end x l in
    let part_in = in_part true run from to x h (omega arith) in
    let before : x < part.from → in_spans parts x ≡ false = λ g. none_before part.from parts x order.0 g in
    a ∙ ap (λ t. in_spans (ended_spans true run from to) x || t) rest
    ∙ regroup (in_spans (ended_spans true run from to) x) (in_span (longer_run true run from to) x) (nat_le (longer_run true run from to).to x && in_spans parts x)
    ∙ ap (λ t. t || (nat_le (longer_run true run from to).to x && in_spans parts x)) part_in
    ∙ part_adds part run end x (in_spans parts x) h l before

pub joined_apart : (end : ℕ) (parts : List Span) (run : Span) → run.from ≤ run.to → run.to ≤ end → AreApart run.from end (joined end parts run)
joined_apart end [] run h k = last_apart run end h k
joined_apart end (part ∷ parts) run h k =
    elim (cases_lt (column_after run part.from end) (column_after run part.to end)) [
      | inl g ↦
          let order = longer_order true run (column_after run part.from end) (column_after run part.to end) h (omega arith) (omega (arith, g)) in
          part_apart true run (column_after run part.from end) (column_after run part.to end) end _ h (omega arith) (omega (arith, g)) (omega arith) (joined_apart end parts (longer_run true run (column_after run part.from end) (column_after run part.to end)) order.0 (omega (arith, order.1)))
      | inr g ↦
          let t : nat_lt (column_after run part.from end) (column_after run part.to end) ≡ false = le-ltb (column_after run part.from end) (column_after run part.to end) g in
          rw t (joined_apart end parts run h k)
    ]

-- the whole row
pub joined_is_row : (interval : Span) (parts : List Span) (run : Span) → IsNonDecreasingBy (λ part. part.from) parts → interval.from ≤ interval.to → run.from ≡ interval.from → run.to ≡ interval.from → AreRow (λ x. in_spans parts x) interval (joined interval.to parts run)
joined_is_row interval parts run sorted h from to = record {
  apart = subst (λ (n : ℕ). AreApart n interval.to (joined interval.to parts run)) from (joined_apart interval.to parts run (omega (arith, from, to)) (omega (arith, to, h)));
  exact = λ x low high.
      let e = joined_exact interval.to parts run (in_order parts sorted) (omega (arith, from, to)) (omega (arith, to, h)) x high in
      e ∙ grind (arith, nat_tests);
}

-- no spans, where there is nothing
pub empty_interval : (p : ℕ → Bool) (interval : Span) (spans : List Span) → spans ≡ [] → interval.to ≤ interval.from → AreRow p interval spans
empty_interval p interval spans is ends = rw is (record { apart = tt; exact = λ x h k. absurd (omega (arith, h, k, ends)) })

pub no_parts : (parts : List Span) (interval : Span) (spans : List Span) → spans ≡ [] → length parts ≡ 0 → AreRow (λ x. in_spans parts x) interval spans
no_parts [] interval spans is none = rw is (record { apart = tt; exact = λ x h k. refl })
no_parts (part ∷ parts) interval spans is none = absurd (omega (arith, none))

-- a step over one part, as the loop makes it
pub joined_step : (end : ℕ) (parts : List Span) (i : ℕ) (run run' : Span) (d : Span) (before now_ total : List Span) (from to : ℕ) → i < length parts → from ≡ column_after run (get_or parts i d).from end → to ≡ column_after run (get_or parts i d).to end → run' ≡ longer_run true run from to → now_ ≡ before ++ ended_spans true run from to → before ++ joined end (drop i parts) run ≡ total → now_ ++ joined end (drop (i + 1) parts) run' ≡ total
joined_step end parts i run run' d before now_ total from to h from_is to_is run_is now_is total_is =
    let step = at_drop_more (λ ps. joined end ps run) parts i d h in
    rw (now_is, run_is, from_is, to_is, append_assoc) (ap (λ xs. before ++ xs) (sym step) ∙ total_is)
