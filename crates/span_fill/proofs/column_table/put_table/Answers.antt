-- One column more.
use Rattle.std.proofs.Common.{◌≡◌, ◌≤◌, ℤ, List, subst, sym, ◌∙◌, arith}
use Rattle.span_fill.specs.Windings.{HasWindings}
use Rattle.mapping.proofs.ChangedLists.{written_back}
use Rattle.span_fill.proofs.TableLemmas.{column_added, small_sums}
use Rattle.span_fill.proofs.column_table.put_table.Goals as goal

pub loop-column-init : goal.loop-column-init
loop-column-init c = record {
  flags = λ x y low high row. absurd (omega (arith, low, high));
  length = omega (arith, c.clear.ensures.len);
  changes_capacity = omega arith;
  flags_capacity = c.clear.ensures.capacity;
}

pub put_column-requires-clause-small : goal.put_column-requires-clause-small
put_column-requires-clause-small c =
    let windings = subst (λ (l : List ℤ). HasWindings c.args.lines.now c.loop-column.column l) (sym (c.as_slice.ensures.value ∙ written_back c.wind_lines.new.changes c.clear_changes.new.changes.items c.clear_changes.new.changes.len (omega (arith, c.wind_lines.ensures.length, c.as_mut_slice.ensures.len)))) c.wind_lines.ensures.windings in
    small_sums c.args.lines.now c.loop-column.column c.as_slice.result.now c.requires.count windings

pub put_column-requires-clause-capacity : goal.put_column-requires-clause-capacity
put_column-requires-clause-capacity c =
    let there = c.loop-column.invariant in
    let capacity = c.requires.flags_capacity in
    let low = c.loop-column.auto.column in
    omega (arith, there.length, there.flags_capacity, capacity, low, c.loop-column-test.true)

pub loop-column-preserved : goal.loop-column-preserved
loop-column-preserved c =
    let there = c.loop-column.invariant in
    let low : c.args.columns.from ≤ c.loop-column.column = c.loop-column.auto.column in
    let windings = subst (λ (l : List ℤ). HasWindings c.args.lines.now c.loop-column.column l) (sym (c.as_slice.ensures.value ∙ written_back c.wind_lines.new.changes c.clear_changes.new.changes.items c.clear_changes.new.changes.len (omega (arith, c.wind_lines.ensures.length, c.as_mut_slice.ensures.len)))) c.wind_lines.ensures.windings in
    record {
      flags = column_added c.args.rule c.args.lines.now c.args.columns.from c.loop-column.column c.as_slice.result.now c.loop-column.flags.items c.put_column.new.flags.items low (omega (arith, there.length)) windings c.put_column.ensures.column there.flags;
      length = omega (arith, there.length, low, c.put_column.ensures.column.length);
      changes_capacity = omega (arith, there.changes_capacity, c.clear_changes.ensures.capacity);
      flags_capacity = omega (arith, there.flags_capacity, c.put_column.ensures.capacity);
    }

pub returns-clause-flags : goal.returns-clause-flags
returns-clause-flags c =
    let there = c.loop-column.invariant in
    λ x y low high row. there.flags x y low (omega (arith, high, c.loop-column-test.false)) row

pub returns-clause-length : goal.returns-clause-length
returns-clause-length c =
    let there = c.loop-column.invariant in
    let same : c.loop-column.column ≡ c.args.columns.to = omega (arith, c.loop-column-test.false, c.loop-column.auto.column-end, c.requires.order) in
    omega (arith, there.length, same)
