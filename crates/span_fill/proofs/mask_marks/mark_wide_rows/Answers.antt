-- Each row that the line gives is marked, and of the others there is nothing to mark.
use Rattle.std.proofs.Common.{rules, ◌≡◌, ◌+◌, ◌||◌, ◌&&◌, nat_eq, ◌≤ℤ◌, ap, sym, refl, ◌∙◌, arith, FitsSigned}
use Rattle.std.specs.Int.{w32}
use Rattle.std.proofs.Math.Bool.{or-false}
use Rattle.std.proofs.lemmas.Int.{ints, to_z-of_z}
use Rattle.std.proofs.lemmas.Option.{IfSome_then}
use Rattle.span_fill.specs.BitRows.{has_bit}
use Rattle.span_fill.specs.MaskFrames.{row_at}
use Rattle.span_fill.specs.MaskMarks.{MarksRow}
use Rattle.span_fill.specs.Spans.{in_span}
use Rattle.span_fill.specs.WideLines.{HasAllRows, TakesRowAmong}
use Rattle.span_fill.specs.WideStrokes.{row_of}
use Rattle.span_fill.proofs.MarkLemmas.{all_marked, none_before, none_after, row_more}
use Rattle.span_fill.proofs.MaskRunLemmas.{shift_at}
use Rattle.span_fill.proofs.mask_marks.mark_wide_rows.Goals as goal

pub loop-row-init : goal.loop-row-init
loop-row-init c =
    let first : FitsSigned w32 c.row_at.result = search rules in
    let end : FitsSigned w32 c.row_at-2.result = search rules in
    let given = simp to_z-of_z at c.new-rows.ensures.all in
    let all : HasAllRows (row_at c.args.frame c.args.from) (row_at c.args.frame (c.args.from + c.args.count)) c.new-rows.result = rw (← c.row_at.ensures.row, ← c.row_at-2.ensures.row) given in
    let line = c.new-rows.ensures.line in
    let nib = c.new-rows.ensures.nib ∙ c.row_of_nib.ensures.nib in
    record {
      marked = λ x i wide high.
          sym (or-false (has_bit c.args.bits.now x i))
          ∙ ap (λ b. has_bit c.args.bits.now x i || b) (sym (none_before c.args.frame c.args.line c.new-rows.result c.args.from c.args.count x i all line nib));
      line = line;
      nib = nib;
      first = all.first;
      last = all.last;
      after = λ x y low after high. none_after (row_of c.args.frame.nib) c.args.line c.new-rows.result (row_at c.args.frame c.args.from) (row_at c.args.frame (c.args.from + c.args.count)) x y all line nib low after high;
      size = record { row_count = refl; column_count = refl };
    }

pub mark_seen-requires-clause-size : goal.mark_seen-requires-clause-size
mark_seen-requires-clause-size c =
    let size = c.loop-row.invariant.size in
    record { row_count = size.row_count ∙ c.requires.size.row_count; column_count = size.column_count ∙ c.requires.size.column_count }

pub mark_seen-requires-clause-part : goal.mark_seen-requires-clause-part
mark_seen-requires-clause-part c =
    let takes : TakesRowAmong c.args.frame.region.columns c.loop-row.rows c.next_among.new.self c.in-Some.row = c.in-Some.ensures in
    record { first = takes.first; order = takes.order; last = takes.last }

pub own_row-requires-clause-shift : goal.own_row-requires-clause-shift
own_row-requires-clause-shift c =
    let takes : TakesRowAmong c.args.frame.region.columns c.loop-row.rows c.next_among.new.self c.in-Some.row = c.in-Some.ensures in
    let there = c.loop-row.invariant in
    let first = there.first in
    let last = there.last in
    let left = takes.left in
    let row = takes.row in
    let y : FitsSigned w32 c.in-Some.row.y = search rules in
    simp to_z-of_z (IfSome_then c.shift_of-shift.result c.shift_of-shift.ensures (λ shift behind. shift_at c.args.frame c.args.from c.args.count shift c.in-Some.row.y behind (omega (arith, ints, first, row)) (omega (arith, ints, last, left, row))))

pub loop-row-smaller : goal.loop-row-smaller
loop-row-smaller c =
    let takes : TakesRowAmong c.args.frame.region.columns c.loop-row.rows c.next_among.new.self c.in-Some.row = c.in-Some.ensures in
    let left = takes.left in
    let next = takes.next in
    let end = takes.end in
    omega (arith, ints, left, next, end)

pub loop-row-preserved : goal.loop-row-preserved
loop-row-preserved c =
    let there = c.loop-row.invariant in
    let takes : TakesRowAmong c.args.frame.region.columns c.loop-row.rows c.next_among.new.self c.in-Some.row = c.in-Some.ensures in
    let size = there.size in
    let first = there.first in
    let next = takes.next in
    let end : c.next_among.new.self.end ≡ c.loop-row.rows.end = takes.end in
    let y : FitsSigned w32 c.in-Some.row.y = search rules in
    let own = simp to_z-of_z at c.own_row.ensures.row in
    let set : MarksRow c.args.frame c.in-Some.row c.loop-row.bits c.mark_seen.new.bits = λ x i wide high.
    c.mark_seen.ensures.columns x i wide high ∙ ap (λ n. has_bit c.loop-row.bits x i || (nat_eq i n && in_span c.in-Some.row.columns (x + c.args.frame.region.columns.from))) own in
    record {
      marked = λ x i wide high.
          row_more c.args.frame c.args.line c.loop-row.rows c.next_among.new.self c.in-Some.row (has_bit c.args.bits.now x i) c.args.from c.args.count x i takes there.line there.nib there.first there.last
          wide (set x i wide high) (there.marked x i wide high);
      line = takes.line ∙ there.line;
      nib = takes.nib ∙ there.nib;
      first = omega (arith, ints, first, next);
      last = rw end there.last;
      after = λ x y low after high. there.after x y low (rw end at after) high;
      size = record { row_count = c.mark_seen.ensures.size.row_count ∙ size.row_count; column_count = c.mark_seen.ensures.size.column_count ∙ size.column_count };
    }

pub returns-clause-rows : goal.returns-clause-rows
returns-clause-rows c = λ x i wide high.
    let there = c.loop-row.invariant in
    let ended : (c.loop-row.rows.end ≤ℤ c.loop-row.rows.next) × (c.next_among.new.self ≡ c.loop-row.rows) = c.in_default.ensures in
    there.marked x i wide high
    ∙ ap (λ b. has_bit c.args.bits.now x i || b) (all_marked c.args.frame c.args.line c.args.from c.args.count c.loop-row.rows.next c.loop-row.rows.end x i ended.0 there.first there.after)
