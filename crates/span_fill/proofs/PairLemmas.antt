-- A sweep two edges at a time, as long as nothing is inside behind both.
use Rattle.std.proofs.Common.{◌≡◌, ℕ, ◌+◌, ◌<◌, true, false, cond, not, max, min, inl, inr, List, [], ◌∷◌, ◌++◌, length, get_or, drop, length-drop, append_assoc, refl, sym, ap, ◌∙◌, arith}
use Rattle.std.proofs.lemmas.Bool.{cases_Bool}
use Rattle.std.proofs.lemmas.Bool.Decides.{nat_tests}
use Rattle.std.proofs.lemmas.List.{drop_more}
use Rattle.span_fill.specs.Edges.{column_of}
use Rattle.span_fill.specs.Fill.{is_inside}
use Rattle.span_fill.specs.Sweep.{ended_spans, has_pair, is_over_after, longer_run, swept}
use Rattle.span_fill.specs.declared.edge.ActiveEdge.{ActiveEdge}
use Rattle.span_fill.specs.declared.fill_rule.FillRule.{FillRule}
use Rattle.span_fill.specs.declared.fill_rule.FillRule.TheVariants.{EvenOdd, NonZero}
use Rattle.span_fill.specs.declared.span.Span.{Span}
use Rattle.span_fill.proofs.SweepLemmas.{none_crossed, one_crossed, same_inside}

-- counts with which the same is inside, whatever is counted besides
abbrev SameTurn : FillRule → ℕ → ℕ → ℕ → ℕ → Type 0
SameTurn rule d u d' u' = (a b : ℕ) → is_inside rule (d + a) (u + b) ≡ is_inside rule (d' + a) (u' + b)

at_once : (rule : FillRule) (d u d' u' : ℕ) → SameTurn rule d u d' u' → is_inside rule d u ≡ is_inside rule d' u'
at_once rule d u d' u' h =
    same_inside rule d u (d + 0) (u + 0) (omega arith) (omega arith) ∙ h 0 0 ∙ same_inside rule (d' + 0) (u' + 0) d' u' (omega arith) (omega arith)

one_more : (rule : FillRule) (d u d' u' m n : ℕ) → SameTurn rule d u d' u' → SameTurn rule (d + m) (u + n) (d' + m) (u' + n)
one_more rule d u d' u' m n h a b =
    same_inside rule ((d + m) + a) ((u + n) + b) (d + (m + a)) (u + (n + b)) (omega arith) (omega arith) ∙ h (m + a) (n + b)
    ∙ same_inside rule (d' + (m + a)) (u' + (n + b)) ((d' + m) + a) ((u' + n) + b) (omega arith) (omega arith)

-- a sweep looks at nothing else of the counts
swept_same : (rule : FillRule) (end : ℕ) (edges : List ActiveEdge) (at d u d' u' : ℕ) (run : Span) → SameTurn rule d u d' u' → swept rule end edges at d u run ≡ swept rule end edges at d' u' run
swept_same rule end [] at d u d' u' run h = rw (at_once rule d u d' u' h) refl
swept_same rule end (edge ∷ edges) at d u d' u' run h =
    let e = at_once rule d u d' u' h in
    rw e (ap (λ spans. ended_spans (is_inside rule d' u') run at (max at (min (column_of edge) end)) ++ spans) (swept_same rule end edges _ (d + cond edge.is_down 1 0) (u + cond (not edge.is_down) 1 0) (d' + cond edge.is_down 1 0) (u' + cond (not edge.is_down) 1 0) _ (one_more rule d u d' u' _ _ h)))

-- two edges with nothing inside behind them turn as none
both_turn : (rule : FillRule) (left right : ActiveEdge) → is_over_after rule left right ≡ true → SameTurn rule ((0 + cond left.is_down 1 0) + cond right.is_down 1 0) ((0 + cond (not left.is_down) 1 0) + cond (not right.is_down) 1 0) 0 0
both_turn EvenOdd left right t a b =
    elim (cases_Bool left.is_down) [
      | inl l ↦ elim (cases_Bool right.is_down) [ inl r ↦ rw (l, r) (grind (arith, nat_tests)) | inr r ↦ rw (l, r) (grind (arith, nat_tests)) ]
      | inr l ↦ elim (cases_Bool right.is_down) [ inl r ↦ rw (l, r) (grind (arith, nat_tests)) | inr r ↦ rw (l, r) (grind (arith, nat_tests)) ]
    ]
both_turn NonZero left right t a b =
    elim (cases_Bool left.is_down) [
      | inl l ↦ elim (cases_Bool right.is_down) [ inl r ↦ absurd (let s = rw (l, r) at t in cc) | inr r ↦ rw (l, r) (grind (arith, nat_tests)) ]
      | inr l ↦ elim (cases_Bool right.is_down) [ inl r ↦ rw (l, r) (grind (arith, nat_tests)) | inr r ↦ absurd (let s = rw (l, r) at t in cc) ]
    ]

-- where two edges stand
pair_at : (edges : List ActiveEdge) (place : ℕ) (d : ActiveEdge) → place + 1 < length edges → drop place edges ≡ get_or edges place d ∷ get_or edges (place + 1) d ∷ drop (place + 2) edges
pair_at edges place d h =
    let next : place + 1 + 1 ≡ place + 2 = omega arith in
    drop_more edges place d (omega (arith, h)) ∙ ap (λ es. get_or edges place d ∷ es) (drop_more edges (place + 1) d h ∙ ap (λ n. get_or edges (place + 1) d ∷ drop n edges) next)

pub has_pair_at : (rule : FillRule) (edges : List ActiveEdge) (place : ℕ) (d : ActiveEdge) → place + 1 < length edges → has_pair rule (drop place edges) ≡ is_over_after rule (get_or edges place d) (get_or edges (place + 1) d)
has_pair_at rule edges place d h = ap (has_pair rule) (pair_at edges place d h)

no_pair : (rule : FillRule) (edges : List ActiveEdge) → length edges < 2 → has_pair rule edges ≡ false
no_pair rule [] h = refl
no_pair rule (edge ∷ []) h = refl
no_pair rule (left ∷ right ∷ edges) h = absurd (omega (arith, h))

pub no_pair_at : (rule : FillRule) (edges : List ActiveEdge) (place : ℕ) → length edges < place + 2 → has_pair rule (drop place edges) ≡ false
no_pair_at rule edges place h = let len = length-drop place edges in no_pair rule (drop place edges) (omega (arith, h, len))

-- two edges as the loop takes them
pair_step : (rule : FillRule) (end at : ℕ) (left right : ActiveEdge) (edges : List ActiveEdge) (run : Span) (from to : ℕ) → is_over_after rule left right ≡ true → from ≡ max at (min (column_of left) end) → to ≡ max from (min (column_of right) end) → swept rule end (left ∷ right ∷ edges) at 0 0 run ≡ ended_spans true run from to ++ swept rule end edges to 0 0 (longer_run true run from to)
pair_step rule end at left right edges run from to over from_is to_is =
    rw (to_is, from_is, none_crossed rule, one_crossed rule left.is_down) (ap (λ spans. ended_spans true run (max at (min (column_of left) end)) (max (max at (min (column_of left) end)) (min (column_of right) end)) ++ spans) (swept_same rule end edges _ _ _ 0 0 _ (both_turn rule left right over)))

pub swept_pairs : (rule : FillRule) (end : ℕ) (edges : List ActiveEdge) (place at : ℕ) (run : Span) (d : ActiveEdge) (from to : ℕ) (after : Span) (before now_ total : List Span) → place + 1 < length edges → is_over_after rule (get_or edges place d) (get_or edges (place + 1) d) ≡ true → from ≡ max at (min (column_of (get_or edges place d)) end) → to ≡ max from (min (column_of (get_or edges (place + 1) d)) end) → after ≡ longer_run true run from to → now_ ≡ before ++ ended_spans true run from to → before ++ swept rule end (drop place edges) at 0 0 run ≡ total → now_ ++ swept rule end (drop (place + 2) edges) to 0 0 after ≡ total
swept_pairs rule end edges place at run d from to after before now_ total within over from_is to_is after_is now_is so =
    let step = pair_step rule end at (get_or edges place d) (get_or edges (place + 1) d) (drop (place + 2) edges) run from to over from_is to_is in
    rw (now_is, after_is, append_assoc) (ap (λ spans. before ++ spans) (sym (ap (λ es. swept rule end es at 0 0 run) (pair_at edges place d within) ∙ step)) ∙ so)
