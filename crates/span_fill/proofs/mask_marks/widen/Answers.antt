-- Rows that have what so many rows had, and rows behind them that do too.
use Rattle.std.proofs.Common.{◌+◌, ◌-◌, ◌*◌, arith, refl, ◌∙◌}
use Rattle.span_fill.proofs.WideningLemmas.{no_further, widened_joined}
use Rattle.span_fill.proofs.mask_marks.widen.Goals as goal

pub loop-reach-init : goal.loop-reach-init
loop-reach-init c = record {
  some = omega arith;
  within = c.requires.some;
  widened = λ x i wide high. no_further c.args.bits.now x i;
  size = record { row_count = refl; column_count = refl };
}

pub loop-reach-preserved : goal.loop-reach-preserved
loop-reach-preserved c =
    let before = c.loop-reach.invariant in
    let some = before.some in
    let more = c.loop-reach-test.true in
    let rows = before.size.row_count in
    let columns = before.size.column_count in
    record {
      some = omega arith;
      within = omega arith;
      widened = λ x i wide high.
          widened_joined c.args.bits.now c.loop-reach.bits c.join.new.self x i c.loop-reach.reach c.loop-reach.reach (c.loop-reach.reach * 2) (omega arith) (omega arith)
          (c.join.ensures.rows.joined x i (rw columns wide) (omega (arith, high, some)))
          (before.widened x i wide (omega (arith, high, some)))
          (before.widened x (i + c.loop-reach.reach) wide (omega (arith, high)));
      size = record { row_count = c.join.ensures.size.row_count ∙ rows; column_count = c.join.ensures.size.column_count ∙ columns };
    }

pub returns-clause-rows : goal.returns-clause-rows
returns-clause-rows c = λ x i wide high.
    let before = c.loop-reach.invariant in
    let some = before.some in
    let within = before.within in
    let end = c.loop-reach-test.false in
    let columns = before.size.column_count in
    widened_joined c.args.bits.now c.loop-reach.bits c.join-2.new.self x i c.loop-reach.reach (c.args.depth - c.loop-reach.reach) c.args.depth (omega (arith, within)) (omega (arith, end))
    (c.join-2.ensures.rows.joined x i (rw columns wide) high)
    (before.widened x i wide (omega (arith, high, within)))
    (before.widened x (i + (c.args.depth - c.loop-reach.reach)) wide (omega (arith, high, within)))

pub returns-clause-size : goal.returns-clause-size
returns-clause-size c =
    let size = c.loop-reach.invariant.size in
    record { row_count = c.join-2.ensures.size.row_count ∙ size.row_count; column_count = c.join-2.ensures.size.column_count ∙ size.column_count }
