-- The spans that a sweep gives are a row of what the edges have inside.
use Rattle.std.proofs.Common.{◌≡◌, ℕ, inl, inr, suc, ◌+◌, ◌<◌, ◌≤◌, Bool, true, false, ◌&&◌, ◌||◌, ◌==◌, cond, not, nat_le, nat_lt, max, min, if◌then◌else◌, List, [], ◌∷◌, ◌++◌, length, get_or, drop, append_assoc, refl, sym, ap, ◌∙◌, arith}
use Rattle.std.proofs.lemmas.Bool.{cases_eq, cases_lt, cases_Bool, eq-eqb, ne_eqb, lt-ltb, le-ltb}
use Rattle.std.proofs.lemmas.List.{at_drop_more}
use Rattle.std.proofs.lemmas.Bool.Decides.{nat_tests}
use Rattle.span_fill.specs.Edges.{column_of}
use Rattle.span_fill.specs.Fill.{is_inside}
use Rattle.span_fill.specs.Spans.{AreApart, AreRow, in_span, in_spans}
use Rattle.span_fill.specs.Sweep.{CrossFrom, AreSorted, downwards_at, ended_spans, is_over_after, is_part, longer_run, run_spans, swept, upwards_at}
use Rattle.span_fill.specs.declared.edge.ActiveEdge.{ActiveEdge}
use Rattle.span_fill.specs.declared.fill_rule.FillRule.{FillRule}
use Rattle.span_fill.specs.declared.fill_rule.FillRule.TheVariants.{EvenOdd, NonZero}
use Rattle.span_fill.specs.declared.span.Span.{Span}

pub in_spans-append : (xs ys : List Span) (x : ℕ) → in_spans (xs ++ ys) x ≡ (in_spans xs x || in_spans ys x)
in_spans-append [] ys x = refl
in_spans-append (s ∷ xs) ys x = let e = in_spans-append xs ys x in grind (arith, e)

-- a run as a list has what it has
pub in_run : (run : Span) (x : ℕ) → in_spans (run_spans run) x ≡ in_span run x
in_run run x = grind (arith, nat_tests)

-- what columns end, and the run after them, have what the run had, and the columns if they are inside
pub in_part : (inside : Bool) (run : Span) (from to x : ℕ) → run.from ≤ run.to → run.to ≤ from → (in_spans (ended_spans inside run from to) x || in_span (longer_run inside run from to) x) ≡ (in_span run x || (is_part inside from to && (nat_le from x && nat_lt x to)))
in_part inside run from to x h k = grind (arith, nat_tests)

-- behind the last edge, all columns up to the end are inside or none is
last_part : (inside : Bool) (run : Span) (at end x : ℕ) → run.from ≤ run.to → run.to ≤ at → x < end → in_spans (ended_spans inside run at end ++ run_spans (longer_run inside run at end)) x ≡ (in_span run x || (nat_le at x && inside))
last_part inside run at end x h k l =
    let a = in_spans-append (ended_spans inside run at end) (run_spans (longer_run inside run at end)) x in
    let b = in_run (longer_run inside run at end) x in
    let e = in_part inside run at end x h k in
    a ∙ ap (λ t. in_spans (ended_spans inside run at end) x || t) b ∙ e ∙ grind (arith, nat_tests)

pub regroup : (p q r : Bool) → (p || (q || r)) ≡ ((p || q) || r)
regroup true q r = refl
regroup false q r = refl

-- the columns up to a later one, and those from there on
split_at : (inside later whole : Bool) (run : Span) (at column x : ℕ) → run.to ≤ at → at ≤ column → (x < column → at ≤ x → whole ≡ inside) → (column ≤ x → whole ≡ later) → ((in_span run x || (is_part inside at column && (nat_le at x && nat_lt x column))) || (nat_le column x && later)) ≡ (in_span run x || (nat_le at x && whole))
split_at inside later whole run at column x k l before after =
    elim (cases_lt x column) [
      | inl h ↦ elim (cases_lt x at) [
        | inl g ↦ grind (arith, nat_tests)
        | inr g ↦ let e = before h g in grind (arith, nat_tests)
      ]
      | inr h ↦ let e = after h in grind (arith, nat_tests)
    ]

-- before the next edge all are inside or none is, and from there on it is as behind that edge
next_part : (inside later whole : Bool) (run : Span) (at column x : ℕ) (others : List Span) → run.from ≤ run.to → run.to ≤ at → at ≤ column → in_spans others x ≡ (in_span (longer_run inside run at column) x || (nat_le column x && later)) → (x < column → at ≤ x → whole ≡ inside) → (column ≤ x → whole ≡ later) → in_spans (ended_spans inside run at column ++ others) x ≡ (in_span run x || (nat_le at x && whole))
next_part inside later whole run at column x others h k l rest before after =
    let a = in_spans-append (ended_spans inside run at column) others x in
    let e = in_part inside run at column x h k in
    a ∙ ap (λ t. in_spans (ended_spans inside run at column) x || t) rest ∙ regroup (in_spans (ended_spans inside run at column) x) (in_span (longer_run inside run at column) x) (nat_le column x && later) ∙ ap (λ t. t || (nat_le column x && later)) e ∙ split_at inside later whole run at column x k l before after

-- a run stays in order, and within what is behind it
pub longer_order : (inside : Bool) (run : Span) (from to : ℕ) → run.from ≤ run.to → run.to ≤ from → from ≤ to → ((longer_run inside run from to).from ≤ (longer_run inside run from to).to) × ((longer_run inside run from to).to ≤ to)
longer_order inside run from to h k l = (grind (arith, nat_tests), grind (arith, nat_tests))

-- no edge crosses before its column
none_down : (edges : List ActiveEdge) (column x : ℕ) → CrossFrom column edges → x < column → downwards_at edges x ≡ 0
none_down [] column x h l = refl
none_down (e ∷ edges) column x h l = let t = none_down edges column x h.1 l in let first = h.0 in grind (arith, nat_tests)

none_up : (edges : List ActiveEdge) (column x : ℕ) → CrossFrom column edges → x < column → upwards_at edges x ≡ 0
none_up [] column x h l = refl
none_up (e ∷ edges) column x h l = let t = none_up edges column x h.1 l in let first = h.0 in grind (arith, nat_tests)

-- the same test at the same counts
pub same_inside : (rule : FillRule) (d u d' u' : ℕ) → d ≡ d' → u ≡ u' → is_inside rule d u ≡ is_inside rule d' u'
same_inside rule d u d' u' e f = ap (λ n. is_inside rule n u) e ∙ ap (λ n. is_inside rule d' n) f

-- a pixel is in a swept span or in the run exactly where it is inside
pub swept_exact : (rule : FillRule) (end : ℕ) (edges : List ActiveEdge) (at d u : ℕ) (run : Span) → AreSorted edges → run.from ≤ run.to → run.to ≤ at → at ≤ end → (x : ℕ) → x < end → in_spans (swept rule end edges at d u run) x ≡ (in_span run x || (nat_le at x && is_inside rule (d + downwards_at edges x) (u + upwards_at edges x)))
swept_exact rule end [] at d u run sorted h k l x below =
    let e : is_inside rule d u ≡ is_inside rule (d + 0) (u + 0) = same_inside rule d u (d + 0) (u + 0) (omega arith) (omega arith) in
    last_part (is_inside rule d u) run at end x h k below ∙ ap (λ t. in_span run x || (nat_le at x && t)) e
swept_exact rule end (edge ∷ edges) at d u run sorted h k l x below =
    let order = longer_order (is_inside rule d u) run at (max at (min (column_of edge) end)) h k (omega arith) in
    let rest = swept_exact rule end edges (max at (min (column_of edge) end)) (d + (if edge.is_down then 1 else 0)) (u + (if not edge.is_down then 1 else 0)) (longer_run (is_inside rule d u) run at (max at (min (column_of edge) end))) sorted.1 order.0 order.1 (omega arith) x below in
    next_part (is_inside rule d u) _ (is_inside rule (d + downwards_at (edge ∷ edges) x) (u + upwards_at (edge ∷ edges) x)) run at (max at (min (column_of edge) end)) x _ h k (omega arith) rest
    (λ before from. let left : x < (column_of edge) = omega arith in
    let a = none_down edges (column_of edge) x sorted.0 left in
    let b = none_up edges (column_of edge) x sorted.0 left in
    same_inside rule _ _ _ _ (grind (arith, nat_tests)) (grind (arith, nat_tests)))
    (λ after. let right : (column_of edge) ≤ x = omega arith in
    same_inside rule _ _ _ _ (grind (arith, nat_tests)) (grind (arith, nat_tests)))

-- spans that begin later
apart_lower : (low first last : ℕ) (spans : List Span) → low ≤ first → AreApart first last spans → AreApart low last spans
apart_lower low first last [] h a = tt
apart_lower low first last (s ∷ spans) h a = let from = a.0 in (omega arith, a.1, a.2, a.3)

run_apart : (run : Span) (first end : ℕ) (spans : List Span) → run.from ≤ run.to → run.to ≤ end → run.to < first → AreApart first end spans → AreApart run.from end (run_spans run ++ spans)
run_apart run first end spans h k l a =
    elim (cases_lt run.from run.to) [
      | inl g ↦ let t : nat_lt run.from run.to ≡ true = lt-ltb _ _ g in rw t (omega arith, g, k, apart_lower (suc run.to) first end spans (omega arith) a)
      | inr g ↦ let t : nat_lt run.from run.to ≡ false = le-ltb _ _ g in rw t (apart_lower run.from first end spans (omega arith) a)
    ]

pub part_apart : (inside : Bool) (run : Span) (from to end : ℕ) (others : List Span) → run.from ≤ run.to → run.to ≤ from → from ≤ to → to ≤ end → AreApart (longer_run inside run from to).from end others → AreApart run.from end (ended_spans inside run from to ++ others)
part_apart inside run from to end others h k l m a =
    elim (cases_Bool (is_part inside from to)) [
      | inr p ↦ rw p (rw p at a)
      | inl p ↦ elim (cases_eq run.to from) [
        | inl q ↦ let t : (run.to == from) ≡ true = eq-eqb _ _ q in rw (p, t) (rw (p, t) at a)
        | inr q ↦ let t : (run.to == from) ≡ false = ne_eqb _ _ q in rw (p, t) (run_apart run from end others h (omega arith) (omega (arith, q)) (rw (p, t) at a))
      ]
    ]

pub last_apart : (run : Span) (end : ℕ) → run.from ≤ run.to → run.to ≤ end → AreApart run.from end (run_spans run)
last_apart run end h k =
    elim (cases_lt run.from run.to) [
      | inl g ↦ let t : nat_lt run.from run.to ≡ true = lt-ltb _ _ g in rw t (omega arith, g, k, tt)
      | inr g ↦ let t : nat_lt run.from run.to ≡ false = le-ltb _ _ g in rw t tt
    ]

pub swept_apart : (rule : FillRule) (end : ℕ) (edges : List ActiveEdge) (at d u : ℕ) (run : Span) → run.from ≤ run.to → run.to ≤ at → at ≤ end → AreApart run.from end (swept rule end edges at d u run)
swept_apart rule end [] at d u run h k l =
    let order = longer_order (is_inside rule d u) run at end h k l in
    part_apart (is_inside rule d u) run at end end _ h k l (omega arith) (last_apart (longer_run (is_inside rule d u) run at end) end order.0 order.1)
swept_apart rule end (edge ∷ edges) at d u run h k l =
    let order = longer_order (is_inside rule d u) run at (max at (min (column_of edge) end)) h k (omega arith) in
    part_apart (is_inside rule d u) run at (max at (min (column_of edge) end)) end _ h k (omega arith) (omega arith) (swept_apart rule end edges (max at (min (column_of edge) end)) _ _ (longer_run (is_inside rule d u) run at (max at (min (column_of edge) end))) order.0 order.1 (omega arith))

-- the whole row
pub swept_is_row : (rule : FillRule) (interval : Span) (edges : List ActiveEdge) → AreSorted edges → interval.from ≤ interval.to → AreRow (λ x. is_inside rule (downwards_at edges x) (upwards_at edges x)) interval (swept rule interval.to edges interval.from 0 0 (record { from = interval.from; to = interval.from }))
swept_is_row rule interval edges sorted h = record {
  apart = swept_apart rule interval.to edges interval.from 0 0 (record { from = interval.from; to = interval.from }) (omega arith) (omega arith) h;
  exact = λ x low high.
      let e = swept_exact rule interval.to edges interval.from 0 0 (record { from = interval.from; to = interval.from }) sorted (omega arith) (omega arith) h x high in
      let t : (in_span (record { from = interval.from; to = interval.from }) x || (nat_le interval.from x && is_inside rule (0 + downwards_at edges x) (0 + upwards_at edges x))) ≡ is_inside rule (0 + downwards_at edges x) (0 + upwards_at edges x) = grind (arith, nat_tests) in
      e ∙ t ∙ same_inside rule _ _ _ _ (omega arith) (omega arith);
}

-- where only the columns between two are inside, and no run before them, they are the one span
one_run : (at from to : ℕ) → ended_spans true (record { from = at; to = at }) from to ++ run_spans (longer_run true (record { from = at; to = at }) from to) ≡ run_spans (record { from = from; to = to })
one_run at from to =
    let none : nat_lt at at ≡ false = le-ltb at at (omega arith) in
    elim (cases_lt from to) [
      | inl h ↦ let t : nat_lt from to ≡ true = lt-ltb from to h in
          elim (cases_eq at from) [
            | inl e ↦ let s : (at == from) ≡ true = eq-eqb at from e in rw (t, s) (ap (λ n. run_spans (record { from = n; to = to })) e ∙ rw t refl)
            | inr g ↦ let s : (at == from) ≡ false = ne_eqb at from g in rw (t, s, none, t) refl
          ]
      | inr h ↦ let t : nat_lt from to ≡ false = le-ltb from to h in rw (t, none) refl
    ]

-- a count of one edge is inside, and none is without edges
pub none_crossed : (rule : FillRule) → is_inside rule 0 0 ≡ false
none_crossed EvenOdd = refl
none_crossed NonZero = refl

pub one_crossed : (rule : FillRule) (is_down : Bool) → is_inside rule (0 + cond is_down 1 0) (0 + cond (not is_down) 1 0) ≡ true
one_crossed EvenOdd true = refl
one_crossed EvenOdd false = refl
one_crossed NonZero true = refl
one_crossed NonZero false = refl

both_crossed : (rule : FillRule) (left right : ActiveEdge) → is_over_after rule left right ≡ true → is_inside rule ((0 + cond left.is_down 1 0) + cond right.is_down 1 0) ((0 + cond (not left.is_down) 1 0) + cond (not right.is_down) 1 0) ≡ false
both_crossed EvenOdd left right t =
    elim (cases_Bool left.is_down) [
      | inl l ↦ elim (cases_Bool right.is_down) [ inl r ↦ rw (l, r) refl | inr r ↦ rw (l, r) refl ]
      | inr l ↦ elim (cases_Bool right.is_down) [ inl r ↦ rw (l, r) refl | inr r ↦ rw (l, r) refl ]
    ]
both_crossed NonZero left right t =
    elim (cases_Bool left.is_down) [
      | inl l ↦ elim (cases_Bool right.is_down) [ inl r ↦ absurd (let s = rw (l, r) at t in cc) | inr r ↦ rw (l, r) refl ]
      | inr l ↦ elim (cases_Bool right.is_down) [ inl r ↦ rw (l, r) refl | inr r ↦ absurd (let s = rw (l, r) at t in cc) ]
    ]

-- two edges with nothing inside behind them give the span between them
pub swept_pair : (rule : FillRule) (end at : ℕ) (left right : ActiveEdge) → is_over_after rule left right ≡ true → swept rule end (left ∷ right ∷ []) at 0 0 (record { from = at; to = at }) ≡ run_spans (record { from = max at (min (column_of left) end); to = max (max at (min (column_of left) end)) (min (column_of right) end) })
swept_pair rule end at left right t =
    rw (none_crossed rule, one_crossed rule left.is_down, both_crossed rule left right t) (one_run at (max at (min (column_of left) end)) (max (max at (min (column_of left) end)) (min (column_of right) end)))

-- the same of a list of two edges
pub swept_two : (rule : FillRule) (end at : ℕ) (edges : List ActiveEdge) (d : ActiveEdge) (from to : ℕ) (before now_ : List Span) → length edges ≡ 2 → is_over_after rule (get_or edges 0 d) (get_or edges 1 d) ≡ true → from ≡ max at (min (column_of (get_or edges 0 d)) end) → to ≡ max from (min (column_of (get_or edges 1 d)) end) → now_ ≡ before ++ run_spans (record { from = from; to = to }) → now_ ≡ before ++ swept rule end edges at 0 0 (record { from = at; to = at })
swept_two rule end at [] d from to before now_ two over from_is to_is is = absurd (omega (arith, two))
swept_two rule end at (left ∷ []) d from to before now_ two over from_is to_is is = absurd (omega (arith, two))
swept_two rule end at (left ∷ right ∷ []) d from to before now_ two over from_is to_is is =
    rw (is, to_is, from_is) (ap (λ spans. before ++ spans) (sym (swept_pair rule end at left right over)))
swept_two rule end at (left ∷ right ∷ other ∷ edges) d from to before now_ two over from_is to_is is = absurd (omega (arith, two))

-- a step over one edge, as the loop makes it
pub swept_step : (rule : FillRule) (end : ℕ) (edges : List ActiveEdge) (i at downs ups : ℕ) (run : Span) (d : ActiveEdge) (before now_ total : List Span) (inside : Bool) (column downs' ups' : ℕ) (run' : Span) → i < length edges → inside ≡ is_inside rule downs ups → column ≡ max at (min (column_of (get_or edges i d)) end) → run' ≡ longer_run inside run at column → downs' ≡ downs + cond (get_or edges i d).is_down 1 0 → ups' ≡ ups + cond (not (get_or edges i d).is_down) 1 0 → now_ ≡ before ++ ended_spans inside run at column → before ++ swept rule end (drop i edges) at downs ups run ≡ total → now_ ++ swept rule end (drop (i + 1) edges) column downs' ups' run' ≡ total
swept_step rule end edges i at downs ups run d before now_ total inside column downs' ups' run' h inside_is column_is run_is downs_is ups_is now_is total_is =
    let step = at_drop_more (λ es. swept rule end es at downs ups run) edges i d h in
    rw (now_is, run_is, inside_is, column_is, downs_is, ups_is, append_assoc) (ap (λ xs. before ++ xs) (sym step) ∙ total_is)
