-- A strip at the first row of a range that is seen.
use Rattle.std.proofs.Common.{rules, FitsSigned, ◌≡◌, ◌≤◌, ◌^◌, ◌∙◌, ℤ, ◌≤ℤ◌, ◌<ℤ◌, true, false, pos, negsuc, refl, ap, sym, arith}
use Rattle.std.specs.Prelude.{int_lt, unsigned_abs}
use Rattle.std.specs.Int.{w32, w64}
use Rattle.std.proofs.lemmas.Int.{ints, to_z-of_z}
use Rattle.std.proofs.lemmas.Bool.{false_from_ne_true}
use Rattle.mapping.specs.TestLaws.{int_le-false, int_lt-false, int_lt-true}
use Rattle.span_fill.specs.MajorLines.{major_of, length_of}
use Rattle.span_fill.specs.WideStrokes.{on_wide_line}
use Rattle.span_fill.specs.declared.major_line.MajorLine.{MajorLine}
use Rattle.span_fill.proofs.WideEdgeSeen.{has_seen, none_drawn, none_seen}
use Rattle.span_fill.proofs.WideEdgeWindows.{columns_have, drawn_of, misses_none, rows_have}
use Rattle.span_fill.proofs.WideEdgeMoves.{can_move}
use Rattle.span_fill.proofs.wide_edge.WideEdge.new.Goals as goal

pub returns-then-length-eq0 : goal.returns-then-length-eq0
returns-then-length-eq0 c = λ x y h k.
    let none : length_of (major_of c.runs_y_major-y_major.result c.args.line) ≡ 0 =
    ap (λ (k : MajorLine). length_of k) (sym c.major_along-major.ensures.value) ∙ sym c.length.ensures.value ∙ c.if-length-eq0.true in
    false_from_ne_true (on_wide_line c.args.nib c.args.line x y) (misses_none c.args.nib c.runs_y_major-y_major.result c.args.line y c.runs_y_major-y_major.ensures none x)

pub returns-then-seen : goal.returns-then-seen
returns-then-seen c =
    let rows =
    rows_have c.runs_y_major-y_major.result c.args.line c.major_along-major.result c.rows_along-rows.result.from c.rows_along-rows.result.to c.runs_y_major-y_major.ensures
    c.major_along-major.ensures.value c.rows_along-rows.ensures.y_major c.rows_along-rows.ensures.x_major in
    none_seen c.args.nib c.runs_y_major-y_major.result c.args.line c.rows_along-rows.result c.rows_seen-seen.result c.args.range.from c.args.range.to rows
    c.rows_seen-seen.ensures.exact (omega (arith, ints, c.if-seen.true))

-- a row that the nib reaches is near
small_top : (top bottom : ℤ) → top ≤ℤ bottom → negsuc 8190 ≤ℤ top → bottom ≤ℤ pos 16382 → unsigned_abs top ≤ 2 ^ 14
small_top top bottom order least most = omega (arith, ints, order, least, most)

pub returns-then-bottom-top : goal.returns-then-bottom-top
returns-then-bottom-top c =
    let rows =
    rows_have c.runs_y_major-y_major.result c.args.line c.major_along-major.result c.rows_along-rows.result.from c.rows_along-rows.result.to c.runs_y_major-y_major.ensures
    c.major_along-major.ensures.value c.rows_along-rows.ensures.y_major c.rows_along-rows.ensures.x_major in
    let bottom : FitsSigned w64 c.window_bottom-bottom.result = search rules in
    let top : FitsSigned w64 c.window_top-top.result = search rules in
    let from : FitsSigned w64 c.from.result = search rules in
    let from-2 : FitsSigned w64 c.from-2.result = search rules in
    let first : FitsSigned w32 c.rows_seen-seen.result.from = search rules in
    let from_is = simp to_z-of_z at c.from.ensures in
    let again = simp to_z-of_z at c.from-2.ensures in
    let top_is = simp to_z-of_z at c.window_top-top.ensures.top in
    let bottom_is = simp to_z-of_z at c.window_bottom-bottom.ensures.bottom in
    let test : int_lt c.window_bottom-bottom.result c.window_top-top.result ≡ true = simp to_z-of_z at c.if-bottom-top.true in
    let order = int_lt-true c.window_bottom-bottom.result c.window_top-top.result test in
    let low = c.rows_seen-seen.ensures.from in
    let high = c.rows_seen-seen.ensures.to in
    let some = c.if-seen.false in
    let reaches = (c.rows_seen-seen.ensures.exact c.rows_seen-seen.result.from (low, omega (arith, ints, some, high))).0 (omega (arith, ints), omega (arith, ints, some)) in
    none_drawn c.args.nib c.runs_y_major-y_major.result c.args.line c.rows_along-rows.result c.rows_seen-seen.result.from c.args.range.from c.args.range.to rows reaches
    (rw (bottom_is, top_is, from_is, again) at order)

pub returns : goal.returns
returns c =
    let y_major = c.runs_y_major-y_major.result in
    let line = c.args.line in
    let major = c.major_along-major.result in
    let is = c.major_along-major.ensures.value in
    let axis = c.runs_y_major-y_major.ensures in
    let rows =
    rows_have c.runs_y_major-y_major.result c.args.line c.major_along-major.result c.rows_along-rows.result.from c.rows_along-rows.result.to c.runs_y_major-y_major.ensures
    c.major_along-major.ensures.value c.rows_along-rows.ensures.y_major c.rows_along-rows.ensures.x_major in
    let bottom : FitsSigned w64 c.window_bottom-bottom.result = search rules in
    let top : FitsSigned w64 c.window_top-top.result = search rules in
    let end : FitsSigned w64 c.end_row.result = search rules in
    let from : FitsSigned w64 c.from.result = search rules in
    let from-2 : FitsSigned w64 c.from-2.result = search rules in
    let first : FitsSigned w32 c.rows_seen-seen.result.from = search rules in
    let from_is = simp to_z-of_z at c.from.ensures in
    let again = simp to_z-of_z at c.from-2.ensures in
    let top_is = simp to_z-of_z at c.window_top-top.ensures.top in
    let bottom_is = simp to_z-of_z at c.window_bottom-bottom.ensures.bottom in
    let row_is = simp to_z-of_z at c.end_row.ensures.row in
    let test : int_lt c.window_bottom-bottom.result c.window_top-top.result ≡ false = simp to_z-of_z at c.if-bottom-top.false in
    let order = int_lt-false c.window_bottom-bottom.result c.window_top-top.result test in
    let length : c.length.result ≡ length_of (major_of y_major line) = c.length.ensures.value ∙ ap (λ (k : MajorLine). length_of k) is in
    let not_zero = c.if-length-eq0.false in
    let row_slope_is = c.new-slope.ensures.value in
    let small = rw (row_slope_is, is) at c.new-slope.ensures.small in
    let first_stepper = simp to_z-of_z at c.stepper_in.ensures in
    let last_stepper = simp to_z-of_z at c.stepper_in-2.ensures in
    let first_at = rw (row_slope_is, is, top_is, from_is) at first_stepper in
    let last_at = rw (row_slope_is, is, row_is, bottom_is, again) at last_stepper in
    let adds = rw (row_slope_is, is) at c.step_of.ensures in
    let last : FitsSigned w32 c.rows_seen-seen.result.to = search rules in
    let begins : c.rows_seen-seen.result.from <ℤ c.rows_seen-seen.result.to = int_le-false c.rows_seen-seen.result.to c.rows_seen-seen.result.from (simp to_z-of_z at c.if-seen.false) in
    let columns = columns_have y_major line major c.columns_along.result.from c.columns_along.result.to axis is c.columns_along.ensures.y_major c.columns_along.ensures.x_major in
    let first_near = small_top c.window_top-top.result c.window_bottom-bottom.result order c.window_top-top.ensures.least c.window_bottom-bottom.ensures.most in
    record {
      line_is = refl;
      waiting = record {
        seen = has_seen c.args.range.from c.args.range.to c.args.nib y_major _ rows c.rows_seen-seen.ensures.exact c.rows_seen-seen.ensures.from c.rows_seen-seen.ensures.to;
        at = record {
          drawn = drawn_of y_major line axis (omega (arith, length, not_zero));
          rows = rows;
          columns = columns;
          near = c.requires.near;
          small = small;
          order = rw (bottom_is, top_is, from_is, again) at order;
          step = adds;
          first_moves = can_move _ line _ c.step_of.result c.stepper_in.result small c.requires.near (rw (top_is, from_is) at first_near) adds first_at;
          last_moves = can_move _ line _ c.step_of.result c.stepper_in-2.result small c.requires.near (rw (row_is, bottom_is, again) at c.end_row.ensures.small) adds last_at;
          first = first_at;
          last = last_at;
        };
        begins = c.rows_seen-seen.ensures.from;
        some = begins;
      };
    }
