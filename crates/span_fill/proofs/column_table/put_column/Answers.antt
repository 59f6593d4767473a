-- One row more.
use Rattle.std.proofs.Common.{◌≡◌, ◌+◌, ◌<◌, ◌^◌, ◌+ℤ◌, pos, false, [], ◌∷◌, FitsSigned, w32, to_z, length, slice_index_or, ◌∙◌, arith, rules}
use Rattle.std.proofs.Math.ListN.{get_or-append}
use Rattle.std.proofs.lemmas.Int.{ints, to_z-of_z}
use Rattle.mapping.specs.Limits.{IsWithin}
use Rattle.span_fill.proofs.TableLemmas.{row_added, total_after, total_more}
use Rattle.span_fill.proofs.column_table.put_column.Goals as goal

pub overflow_add-sum : goal.overflow_add-sum
overflow_add-sum c =
    let there = c.loop-row.invariant in
    let row = c.loop-row.row in
    let below : row < length c.args.changes.now = omega (arith, c.loop-row-test.true, c.requires.length) in
    let before = c.requires.small row (omega (arith, c.loop-row-test.true)) in
    let after = c.requires.small (row + 1) (omega (arith, c.loop-row-test.true)) in
    let more = total_more c.args.changes.now row (pos 0) below in
    let sum = there.sum in
    let before_low = before.low in
    let before_high = before.high in
    let after_low = after.low in
    let after_high = after.high in
    let near : IsWithin (2 ^ 21) (slice_index_or c.args.changes.now row (pos 0)) = record { low = omega (arith, ints, more, before_low, before_high, after_low, after_high); high = omega (arith, ints, more, before_low, before_high, after_low, after_high) } in
    let whole : IsWithin (2 ^ 20) (to_z w32 c.loop-row.sum-bits +ℤ slice_index_or c.args.changes.now row (pos 0)) = record { low = omega (arith, ints, more, sum, after_low); high = omega (arith, ints, more, sum, after_high) } in
    let here : FitsSigned w32 (slice_index_or c.args.changes.now row (pos 0)) = search rules in
    let fits : FitsSigned w32 (to_z w32 c.loop-row.sum-bits +ℤ slice_index_or c.args.changes.now row (pos 0)) = search rules in
    simp to_z-of_z fits

pub is_wound-requires : goal.is_wound-requires
is_wound-requires c =
    let there = c.loop-row.invariant in
    let row = c.loop-row.row in
    let below : row < length c.args.changes.now = omega (arith, c.loop-row-test.true, c.requires.length) in
    let before = c.requires.small row (omega (arith, c.loop-row-test.true)) in
    let after = c.requires.small (row + 1) (omega (arith, c.loop-row-test.true)) in
    let more = total_more c.args.changes.now row (pos 0) below in
    let sum = there.sum in
    let before_low = before.low in
    let before_high = before.high in
    let after_low = after.low in
    let after_high = after.high in
    let near : IsWithin (2 ^ 21) (slice_index_or c.args.changes.now row (pos 0)) = record { low = omega (arith, ints, more, before_low, before_high, after_low, after_high); high = omega (arith, ints, more, before_low, before_high, after_low, after_high) } in
    let whole : IsWithin (2 ^ 20) (to_z w32 c.loop-row.sum-bits +ℤ slice_index_or c.args.changes.now row (pos 0)) = record { low = omega (arith, ints, more, sum, after_low); high = omega (arith, ints, more, sum, after_high) } in
    let here : FitsSigned w32 (slice_index_or c.args.changes.now row (pos 0)) = search rules in
    let fits : FitsSigned w32 (to_z w32 c.loop-row.sum-bits +ℤ slice_index_or c.args.changes.now row (pos 0)) = search rules in
    simp to_z-of_z whole

pub loop-row-preserved : goal.loop-row-preserved
loop-row-preserved c =
    let there = c.loop-row.invariant in
    let row = c.loop-row.row in
    let below : row < length c.args.changes.now = omega (arith, c.loop-row-test.true, c.requires.length) in
    let before = c.requires.small row (omega (arith, c.loop-row-test.true)) in
    let after = c.requires.small (row + 1) (omega (arith, c.loop-row-test.true)) in
    let more = total_more c.args.changes.now row (pos 0) below in
    let sum = there.sum in
    let before_low = before.low in
    let before_high = before.high in
    let after_low = after.low in
    let after_high = after.high in
    let near : IsWithin (2 ^ 21) (slice_index_or c.args.changes.now row (pos 0)) = record { low = omega (arith, ints, more, before_low, before_high, after_low, after_high); high = omega (arith, ints, more, before_low, before_high, after_low, after_high) } in
    let whole : IsWithin (2 ^ 20) (to_z w32 c.loop-row.sum-bits +ℤ slice_index_or c.args.changes.now row (pos 0)) = record { low = omega (arith, ints, more, sum, after_low); high = omega (arith, ints, more, sum, after_high) } in
    let here : FitsSigned w32 (slice_index_or c.args.changes.now row (pos 0)) = search rules in
    let fits : FitsSigned w32 (to_z w32 c.loop-row.sum-bits +ℤ slice_index_or c.args.changes.now row (pos 0)) = search rules in
    let pushed = c.push_reserved.ensures in
    let wound = simp to_z-of_z at c.is_wound.ensures in
    let next = total_after c.args.changes.now row (pos 0) below in
    let long : length c.loop-row.flags.items ≡ length c.args.flags.now.items + row = there.length in
    record {
      sum = simp to_z-of_z (omega (arith, ints, sum, more));
      kept = λ k inside. rw pushed.items (get_or-append c.loop-row.flags.items (c.is_wound.result ∷ []) false k (omega (arith, inside, long)) ∙ there.kept k inside);
      added = rw pushed.items (row_added c.args.rule c.args.changes.now c.args.flags.now.items c.loop-row.flags.items row c.is_wound.result long there.added (λ downs ups e. wound downs ups (omega (arith, ints, sum, next, e))));
      length = omega (arith, pushed.len, long);
      capacity = omega (arith, pushed.capacity, there.capacity);
    }
