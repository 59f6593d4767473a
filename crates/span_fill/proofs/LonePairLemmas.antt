-- Two edges alone have inside what is between them.
use Rattle.std.proofs.Common.{◌≡◌, Bool, ℕ, ◌<◌, ◌≤◌, true, false, ◌&&◌, inl, inr, List, [], ◌∷◌, length, get_or, refl, sym, ap, ◌∙◌, arith}
use Rattle.std.proofs.lemmas.Bool.{cases_Bool, false≢true}
use Rattle.std.proofs.lemmas.Bool.Decides.{nat_tests}
use Rattle.std.specs.List.{All}
use Rattle.mapping.specs.declared.nib.Nib.{Nib}
use Rattle.span_fill.specs.Fill.{is_inside}
use Rattle.span_fill.specs.Lines.{HasNearEnds}
use Rattle.span_fill.specs.LonePairs.{is_between, is_lone_pair}
use Rattle.span_fill.specs.RowFields.{AreCountedAlways, IsFilling, row_work}
use Rattle.span_fill.specs.RowState.{FillsLoneSpan, IsFillingWork}
use Rattle.span_fill.specs.Spans.{in_span}
use Rattle.span_fill.specs.Sweep.{downwards_at, is_over_after, upwards_at}
use Rattle.span_fill.specs.declared.edge.ActiveEdge.{ActiveEdge}
use Rattle.span_fill.specs.declared.edge.Edge.{Edge}
use Rattle.span_fill.specs.declared.fill_rule.FillRule.{FillRule}
use Rattle.span_fill.specs.declared.fill_rule.FillRule.TheVariants.{EvenOdd, NonZero}
use Rattle.span_fill.specs.declared.line.Line.{Line}
use Rattle.span_fill.specs.declared.row_buf.Work.{Work}
use Rattle.span_fill.specs.declared.row_buf.Work.TheVariants.{Filling, Idle, Stroking}
use Rattle.span_fill.specs.declared.span.Span.{Span}
use Rattle.span_fill.proofs.FillLemmas.{inside_is}

-- two edges as a list
pub two_edges : (rule : FillRule) (edges : List ActiveEdge) (d : ActiveEdge) → is_lone_pair rule edges ≡ true → edges ≡ get_or edges 0 d ∷ get_or edges 1 d ∷ []
two_edges rule [] d h = absurd (false≢true h)
two_edges rule (one ∷ []) d h = absurd (false≢true h)
two_edges rule (one ∷ other ∷ []) d h = refl
two_edges rule (one ∷ other ∷ next ∷ edges) d h = absurd (false≢true h)

pub lone_over : (rule : FillRule) (edges : List ActiveEdge) (d : ActiveEdge) → is_lone_pair rule edges ≡ true → is_over_after rule (get_or edges 0 d) (get_or edges 1 d) ≡ true
lone_over rule [] d h = absurd (false≢true h)
lone_over rule (one ∷ []) d h = absurd (false≢true h)
lone_over rule (one ∷ other ∷ []) d h = h
lone_over rule (one ∷ other ∷ next ∷ edges) d h = absurd (false≢true h)

pub between_inside : (rule : FillRule) (one other : ActiveEdge) (x : ℕ) → is_over_after rule one other ≡ true → is_inside rule (downwards_at (one ∷ other ∷ []) x) (upwards_at (one ∷ other ∷ []) x) ≡ is_between one other x
between_inside EvenOdd one other x t =
    elim (cases_Bool one.is_down) [
      | inl l ↦ elim (cases_Bool other.is_down) [ inl r ↦ rw (l, r) (grind (arith, nat_tests)) | inr r ↦ rw (l, r) (grind (arith, nat_tests)) ]
      | inr l ↦ elim (cases_Bool other.is_down) [ inl r ↦ rw (l, r) (grind (arith, nat_tests)) | inr r ↦ rw (l, r) (grind (arith, nat_tests)) ]
    ]
between_inside NonZero one other x t =
    elim (cases_Bool one.is_down) [
      | inl l ↦ elim (cases_Bool other.is_down) [ inl r ↦ absurd (let s = rw (l, r) at t in cc) | inr r ↦ rw (l, r) (grind (arith, nat_tests)) ]
      | inr l ↦ elim (cases_Bool other.is_down) [ inl r ↦ rw (l, r) (grind (arith, nat_tests)) | inr r ↦ absurd (let s = rw (l, r) at t in cc) ]
    ]

-- a row of two edges is filled between them
pub filled_lone : (work : Work) (rule : FillRule) (nib : Nib) (y capacity : ℕ) (lines : List Line) (edges : List Edge) (begun : ℕ) (one other : ActiveEdge) (is_sorted : _) (event : ℕ) (interval span : Span) → IsFillingWork (row_work work rule nib) → All HasNearEnds lines → IsFilling lines y capacity edges begun (one ∷ other ∷ []) is_sorted event → interval.to ≤ 8192 → is_over_after rule one other ≡ true → ((x : ℕ) → in_span span x ≡ (in_span interval x && is_between one other x)) → FillsLoneSpan (row_work work rule nib) lines y interval span
filled_lone Idle rule nib y capacity lines edges begun one other is_sorted event interval span h near filling end over between = absurd h
filled_lone Stroking rule nib y capacity lines edges begun one other is_sorted event interval span h near filling end over between = absurd h
filled_lone Filling rule nib y capacity lines edges begun one other is_sorted event interval span h near filling end over between =
    λ x. elim (cases_Bool (in_span interval x)) [
      | inl t ↦
          let within : x < interval.to = grind (arith, nat_tests, t) in
          between x ∙ ap (λ b. in_span interval x && b) (sym (between_inside rule one other x over) ∙ inside_is rule lines (one ∷ other ∷ []) y x near (omega (arith, within, end)) filling.crosses)
      | inr f ↦ between x ∙ rw f refl
    ]

pub two_long : (rule : FillRule) (edges : List ActiveEdge) → is_lone_pair rule edges ≡ true → length edges ≡ 2
two_long rule [] h = absurd (false≢true h)
two_long rule (one ∷ []) h = absurd (false≢true h)
two_long rule (one ∷ other ∷ []) h = refl
two_long rule (one ∷ other ∷ next ∷ edges) h = absurd (false≢true h)

-- no table is used for two edges
pub lone_unused : (rule : FillRule) (used : Bool) (edges : List ActiveEdge) (is_sorted : Bool) (event : ℕ) → is_lone_pair rule edges ≡ true → (used ≡ true → AreCountedAlways edges is_sorted event) → used ≡ false
lone_unused rule false edges is_sorted event lone always = refl
lone_unused rule true edges is_sorted event lone always =
    let many = (always refl).many in
    let long = two_long rule edges lone in
    absurd (omega (arith, many, long))
