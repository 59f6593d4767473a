-- Each pixel that the steps give is marked, and each that marks anything is one of them.
use Rattle.std.proofs.Common.{◌≡◌, ℕ, ◌+◌, ◌*◌, ◌<◌, ◌≤◌, ◌&&◌, ◌||◌, nat_eq, inl, inr, true, pos, ◌-ℤ◌, ap, arith, refl, subst, sym, ◌∙◌}
use Rattle.std.specs.Prelude.{IsTrue, unsigned_abs}
use Rattle.std.proofs.lemmas.Bool.{and_from, and_parts, cases_lt, eq-eqb, eqb-true, or_left, or_right}
use Rattle.std.proofs.lemmas.Int.{ints}
use Rattle.std.proofs.lemmas.Option.{IfSome_then}
use Rattle.mapping.specs.TestLaws.{by_either, same_test}
use Rattle.span_fill.specs.BitRows.{has_bit}
use Rattle.span_fill.specs.MaskFrames.{first_row, marks_in, mask_row}
use Rattle.span_fill.specs.Spans.{in_region, in_span}
use Rattle.span_fill.specs.Steps.{TakesStep}
use Rattle.span_fill.specs.Strokes.{on_line, step_at}
use Rattle.span_fill.proofs.MaskCoverLemmas.{before_last}
use Rattle.span_fill.proofs.MaskRunLemmas.{IfSome_both, run_around, shift_at, shift_known}
use Rattle.span_fill.proofs.SpanLemmas.{in_from, is_in}
use Rattle.span_fill.proofs.StepMarkLemmas.{marked_by, pixel_marks, same_pixel}
use Rattle.span_fill.proofs.mask_marks.mark_steps.Goals as goal

pub loop-pixel-init : goal.loop-pixel-init
loop-pixel-init c =
    let all = c.new-steps.ensures.all in
    let same = λ (u v : ℕ) (on : IsTrue (on_line c.args.line (pos u) (pos v))). subst (λ l. IsTrue (on_line l (pos u) (pos v))) (sym c.new-steps.ensures.line) on in
    record {
      sound = λ x i wide high set. or_left (has_bit c.args.bits.now x i) (marks_in c.args.frame c.args.line c.args.from c.args.count x i) set;
      kept = λ x i wide high set. set;
      taken = λ u v on inside before x wide around. let first = subst (λ l. c.new-steps.result.next ≤ step_at l (pos u) (pos v)) c.new-steps.ensures.line (all.from u v (same u v on) inside) in absurd (omega (arith, before, first));
      last = λ u v on inside. subst (λ l. step_at l (pos u) (pos v) < c.new-steps.result.end) c.new-steps.ensures.line (all.to u v (same u v on) inside);
      line = c.new-steps.ensures.line;
      region = refl;
      size = record { row_count = refl; column_count = refl };
    }

pub row_around-row-requires-clause-x : goal.row_around-row-requires-clause-x
row_around-row-requires-clause-x c =
    let takes : TakesStep c.loop-pixel.steps c.next.new.self c.in-Some.pixel = c.in-Some.ensures in
    let pixel = c.in-Some.pixel in
    let region = c.loop-pixel.invariant.region ∙ c.new-steps.ensures.region in
    let seen = c.surface_rows-region.result in
    let inside = subst (λ r. IsTrue (in_region r pixel.x pixel.y)) region takes.given.inside in
    let column = (is_in seen.columns pixel.x (and_parts (in_span seen.columns pixel.x) (in_span seen.rows pixel.y) inside).0).1 in
    let limit = c.surface_rows-region.ensures.columns in
    omega (arith, column, limit)

pub row_around-row-requires-clause-y : goal.row_around-row-requires-clause-y
row_around-row-requires-clause-y c =
    let takes : TakesStep c.loop-pixel.steps c.next.new.self c.in-Some.pixel = c.in-Some.ensures in
    let pixel = c.in-Some.pixel in
    let region = c.loop-pixel.invariant.region ∙ c.new-steps.ensures.region in
    let seen = c.surface_rows-region.result in
    let inside = subst (λ r. IsTrue (in_region r pixel.x pixel.y)) region takes.given.inside in
    let row = (is_in seen.rows pixel.y (and_parts (in_span seen.columns pixel.x) (in_span seen.rows pixel.y) inside).1).1 in
    let limit = c.surface_rows-region.ensures.rows in
    omega (arith, row, limit)

pub mark_around-requires-clause-first : goal.mark_around-requires-clause-first
mark_around-requires-clause-first c =
    let takes : TakesStep c.loop-pixel.steps c.next.new.self c.in-Some.pixel = c.in-Some.ensures in
    let region = c.loop-pixel.invariant.region ∙ c.new-steps.ensures.region in
    let there = c.surface_rows-region.ensures.no_other c.in-Some.pixel.x c.in-Some.pixel.y (subst (λ r. IsTrue (in_region r c.in-Some.pixel.x c.in-Some.pixel.y)) region takes.given.inside) in
    let low = there.0 in
    let row = c.row_around-row.ensures.row in
    omega (arith, ints, low, row)

pub mark_around-requires-clause-last : goal.mark_around-requires-clause-last
mark_around-requires-clause-last c =
    let takes : TakesStep c.loop-pixel.steps c.next.new.self c.in-Some.pixel = c.in-Some.ensures in
    let region = c.loop-pixel.invariant.region ∙ c.new-steps.ensures.region in
    let there = c.surface_rows-region.ensures.no_other c.in-Some.pixel.x c.in-Some.pixel.y (subst (λ r. IsTrue (in_region r c.in-Some.pixel.x c.in-Some.pixel.y)) region takes.given.inside) in
    let high = there.1 in
    let row = c.row_around-row.ensures.row in
    let rows = c.requires.rows in
    omega (arith, ints, high, row, rows)

pub mark_around-requires-clause-shift : goal.mark_around-requires-clause-shift
mark_around-requires-clause-shift c =
    let takes : TakesStep c.loop-pixel.steps c.next.new.self c.in-Some.pixel = c.in-Some.ensures in
    let region = c.loop-pixel.invariant.region ∙ c.new-steps.ensures.region in
    let there = c.surface_rows-region.ensures.no_other c.in-Some.pixel.x c.in-Some.pixel.y (subst (λ r. IsTrue (in_region r c.in-Some.pixel.x c.in-Some.pixel.y)) region takes.given.inside) in
    let low = there.0 in
    let high = there.1 in
    let row = c.row_around-row.ensures.row in
    IfSome_then c.shift_of-shift.result c.shift_of-shift.ensures (λ shift behind. shift_at c.args.frame c.args.from c.args.count shift c.row_around-row.result.y behind (omega (arith, ints, low, row)) (omega (arith, ints, high, row)))

pub mark_around-requires-clause-run : goal.mark_around-requires-clause-run
mark_around-requires-clause-run c =
    let takes : TakesStep c.loop-pixel.steps c.next.new.self c.in-Some.pixel = c.in-Some.ensures in
    let pixel = c.in-Some.pixel in
    let on : IsTrue (on_line c.args.line (pos pixel.x) (pos pixel.y)) = subst (λ l. IsTrue (on_line l (pos pixel.x) (pos pixel.y))) c.loop-pixel.invariant.line takes.given.on in
    let region = c.loop-pixel.invariant.region ∙ c.new-steps.ensures.region in
    let there = c.surface_rows-region.ensures.no_other pixel.x pixel.y (subst (λ r. IsTrue (in_region r pixel.x pixel.y)) region takes.given.inside) in
    let low = there.0 in
    let high = there.1 in
    let row = c.row_around-row.ensures.row in
    let shifts = IfSome_then c.shift_of-shift.result c.shift_of-shift.ensures (λ shift behind. shift_at c.args.frame c.args.from c.args.count shift c.row_around-row.result.y behind (omega (arith, ints, low, row)) (omega (arith, ints, high, row))) in
    IfSome_both c.runs_of-runs.result c.runs_of-runs.ensures.runs c.runs_of-runs.ensures.shift (λ runs are known. run_around c.args.frame c.args.line pixel c.row_around-row.result runs c.requires.frame.nib are on c.row_around-row.ensures.from c.row_around-row.ensures.to (shift_known c.args.frame c.row_around-row.result.y c.shift_of-shift.result runs.shift shifts known))

pub loop-pixel-preserved : goal.loop-pixel-preserved
loop-pixel-preserved c =
    let takes : TakesStep c.loop-pixel.steps c.next.new.self c.in-Some.pixel = c.in-Some.ensures in
    let there = c.loop-pixel.invariant in
    let frame = c.args.frame in
    let pixel = c.in-Some.pixel in
    let region = there.region ∙ c.new-steps.ensures.region in
    let bounds = λ (u v : ℕ) (inside : IsTrue (in_region c.loop-pixel.steps.region u v)). c.surface_rows-region.ensures.no_other u v (subst (λ r. IsTrue (in_region r u v)) region inside) in
    let here = bounds pixel.x pixel.y takes.given.inside in
    let on : IsTrue (on_line c.args.line (pos pixel.x) (pos pixel.y)) = subst (λ l. IsTrue (on_line l (pos pixel.x) (pos pixel.y))) there.line takes.given.on in
    let at : step_at c.args.line (pos pixel.x) (pos pixel.y) ≡ c.loop-pixel.steps.next = ap (λ l. step_at l (pos pixel.x) (pos pixel.y)) (sym there.line) ∙ takes.given.at in
    let row = c.row_around-row.ensures.row in
    let rows = c.requires.rows in
    let set = c.mark_around.ensures.row in
    record {
      sound = λ x i wide high new.
          by_either (has_bit c.loop-pixel.bits x i) (nat_eq i (mask_row frame (unsigned_abs (c.row_around-row.result.y -ℤ first_row frame))) && in_span c.row_around-row.result.columns (x + frame.region.columns.from)) (sym (set x i wide high) ∙ new)
          (λ (h : has_bit c.loop-pixel.bits x i ≡ true). there.sound x i wide high h)
          (λ (h : (nat_eq i (mask_row frame (unsigned_abs (c.row_around-row.result.y -ℤ first_row frame))) && in_span c.row_around-row.result.columns (x + frame.region.columns.from)) ≡ true).
          let parts = and_parts (nat_eq i (mask_row frame (unsigned_abs (c.row_around-row.result.y -ℤ first_row frame)))) (in_span c.row_around-row.result.columns (x + frame.region.columns.from)) h in
          or_right (has_bit c.args.bits.now x i) (marks_in frame c.args.line c.args.from c.args.count x i)
          (pixel_marks frame c.args.line c.args.from c.args.count pixel.x pixel.y x i c.requires.frame.nib on here.0 here.1
          ((c.row_around-row.ensures.columns (x + frame.region.columns.from)).0 (is_in c.row_around-row.result.columns (x + frame.region.columns.from) parts.1))
          (eqb-true i (mask_row frame (unsigned_abs (c.row_around-row.result.y -ℤ first_row frame))) parts.0 ∙ ap (λ y. mask_row frame (unsigned_abs (y -ℤ first_row frame))) row)));
      kept = λ x i wide high old. set x i wide high ∙ or_left (has_bit c.loop-pixel.bits x i) (nat_eq i (mask_row frame (unsigned_abs (c.row_around-row.result.y -ℤ first_row frame))) && in_span c.row_around-row.result.columns (x + frame.region.columns.from)) (there.kept x i wide high old);
      taken = λ u v line_has inside before x wide around.
          let old_inside = subst (λ r. IsTrue (in_region r u v)) takes.same.region inside in
          let near = bounds u v old_inside in
          let low = near.0 in
          let high = near.1 in
          let next = takes.next in
          let last = before_last frame (unsigned_abs (pos v -ℤ first_row frame)) c.requires.frame c.requires.some (omega (arith, ints, low, high, rows)) in
          let within : mask_row frame (unsigned_abs (pos v -ℤ first_row frame)) < 2 * Rattle.span_fill.specs.StrokeMasks.height_of frame.region = omega (arith, last) in
          elim (cases_lt (step_at c.args.line (pos u) (pos v)) c.loop-pixel.steps.next) [
            | inl earlier ↦
                set x (mask_row frame (unsigned_abs (pos v -ℤ first_row frame))) wide within
                ∙ or_left (has_bit c.loop-pixel.bits x (mask_row frame (unsigned_abs (pos v -ℤ first_row frame))))
                (nat_eq (mask_row frame (unsigned_abs (pos v -ℤ first_row frame))) (mask_row frame (unsigned_abs (c.row_around-row.result.y -ℤ first_row frame))) && in_span c.row_around-row.result.columns (x + frame.region.columns.from))
                (there.taken u v line_has old_inside earlier x wide around)
            | inr now_ ↦
                let same = same_pixel c.args.line u v pixel line_has on (omega (arith, now_, before, next, at)) in
                let column = same.0 in
                let place : pos v ≡ c.row_around-row.result.y = ap pos same.1 ∙ sym row in
                let left = around.0 in
                let right = around.1 in
                set x (mask_row frame (unsigned_abs (pos v -ℤ first_row frame))) wide within
                ∙ or_right (has_bit c.loop-pixel.bits x (mask_row frame (unsigned_abs (pos v -ℤ first_row frame))))
                (nat_eq (mask_row frame (unsigned_abs (pos v -ℤ first_row frame))) (mask_row frame (unsigned_abs (c.row_around-row.result.y -ℤ first_row frame))) && in_span c.row_around-row.result.columns (x + frame.region.columns.from))
                (and_from (nat_eq (mask_row frame (unsigned_abs (pos v -ℤ first_row frame))) (mask_row frame (unsigned_abs (c.row_around-row.result.y -ℤ first_row frame)))) (in_span c.row_around-row.result.columns (x + frame.region.columns.from))
                (eq-eqb (mask_row frame (unsigned_abs (pos v -ℤ first_row frame))) (mask_row frame (unsigned_abs (c.row_around-row.result.y -ℤ first_row frame))) (ap (λ y. mask_row frame (unsigned_abs (y -ℤ first_row frame))) place))
                (in_from c.row_around-row.result.columns (x + frame.region.columns.from) ((c.row_around-row.ensures.columns (x + frame.region.columns.from)).1 (omega (arith, left, column), omega (arith, right, column)))))
          ];
      last = λ u v line_has inside.
          let end = takes.same.end in
          rw end (there.last u v line_has (subst (λ r. IsTrue (in_region r u v)) takes.same.region inside));
      line = takes.same.line ∙ there.line;
      region = takes.same.region ∙ there.region;
      size = record { row_count = c.mark_around.ensures.size.row_count ∙ there.size.row_count; column_count = c.mark_around.ensures.size.column_count ∙ there.size.column_count };
    }

pub returns-clause-rows : goal.returns-clause-rows
returns-clause-rows c = λ x i wide high.
    let there = c.loop-pixel.invariant in
    let region = there.region ∙ c.new-steps.ensures.region in
    let ended : (c.loop-pixel.steps.end ≤ c.loop-pixel.steps.next) × (c.next.new.self ≡ c.loop-pixel.steps) = c.in_default.ensures in
    same_test (has_bit c.loop-pixel.bits x i) (has_bit c.args.bits.now x i || marks_in c.args.frame c.args.line c.args.from c.args.count x i)
    (λ t. there.sound x i wide high t)
    (λ t. by_either (has_bit c.args.bits.now x i) (marks_in c.args.frame c.args.line c.args.from c.args.count x i) t
    (λ (h : has_bit c.args.bits.now x i ≡ true). there.kept x i wide high h)
    (λ (h : marks_in c.args.frame c.args.line c.args.from c.args.count x i ≡ true).
    let by = marked_by c.args.frame c.args.line c.args.from c.args.count x i c.requires.inside h in
    let inside = subst (λ r. IsTrue (in_region r by.u by.v)) (sym region) (c.surface_rows-region.ensures.all by.u by.v by.column by.row by.low by.high) in
    let before = there.last by.u by.v by.on inside in
    let end = ended.0 in
    ap (λ k. has_bit c.loop-pixel.bits x k) by.place ∙ there.taken by.u by.v by.on inside (omega (arith, before, end)) x wide by.around))
