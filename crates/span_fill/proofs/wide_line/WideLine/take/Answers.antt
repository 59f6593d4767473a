-- The strip is at the next row, and then one row on.
use Rattle.std.proofs.Common.{rules, FitsSigned, pos, ◌+ℤ◌}
use Rattle.std.specs.Int.{w32, w64}
use Rattle.std.proofs.lemmas.Int.{to_z-of_z}
use Rattle.span_fill.proofs.WideLineLemmas.{active_now, line_next, line_taken, near_now, next_fits}
use Rattle.span_fill.proofs.wide_line.WideLine.take.Goals as goal

pub part-requires-clause-first : goal.part-requires-clause-first
part-requires-clause-first c =
    let more = rw (← c.self.view_is) at c.requires.left in (active_now c.self.inside c.self.invariant more).at.first_moves

pub part-requires-clause-last : goal.part-requires-clause-last
part-requires-clause-last c =
    let more = rw (← c.self.view_is) at c.requires.left in (active_now c.self.inside c.self.invariant more).at.last_moves

pub move_on-requires-clause-row : goal.move_on-requires-clause-row
move_on-requires-clause-row c =
    let more = rw (← c.self.view_is) at c.requires.left in
    let next : FitsSigned w32 c.self.inside.next = search rules in
    let from : FitsSigned w64 c.from.result = search rules in
    let is = simp to_z-of_z at c.from.ensures in
    simp to_z-of_z (rw is (near_now c.self.inside c.self.invariant more))

pub move_on-requires-clause-first : goal.move_on-requires-clause-first
move_on-requires-clause-first c =
    let more = rw (← c.self.view_is) at c.requires.left in (active_now c.self.inside c.self.invariant more).at.first_moves

pub move_on-requires-clause-last : goal.move_on-requires-clause-last
move_on-requires-clause-last c =
    let more = rw (← c.self.view_is) at c.requires.left in (active_now c.self.inside c.self.invariant more).at.last_moves

pub overflow_add-self : goal.overflow_add-self
overflow_add-self c =
    let more = rw (← c.self.view_is) at c.requires.left in
    let next : FitsSigned w32 c.self.inside.next = search rules in
    simp to_z-of_z (next_fits c.self.inside c.self.invariant more)

pub invariant_of-self : goal.invariant_of-self
invariant_of-self c =
    let more = rw (← c.self.view_is) at c.requires.left in
    let next : FitsSigned w32 c.self.inside.next = search rules in
    let after : FitsSigned w32 (c.self.inside.next +ℤ pos 1) = next_fits c.self.inside c.self.invariant more in
    let from : FitsSigned w64 c.from.result = search rules in
    let is = simp to_z-of_z at c.from.ensures in
    let moved = simp to_z-of_z at c.move_on.ensures.at in
    let at = rw is at moved in
    simp to_z-of_z (line_next c.self.inside c.move_on.new.self c.self.invariant more c.move_on.ensures.line c.move_on.ensures.rows c.move_on.ensures.seen at)

pub returns : goal.returns
returns c =
    let more = rw (← c.self.view_is) at c.requires.left in
    let next : FitsSigned w32 c.self.inside.next = search rules in
    let after : FitsSigned w32 (c.self.inside.next +ℤ pos 1) = next_fits c.self.inside c.self.invariant more in
    rw (← c.self.view_is) (simp to_z-of_z (line_taken c.self.inside c.move_on.new.self c.args.columns c.part.result c.self.invariant more c.move_on.ensures.line c.move_on.ensures.seen c.part.ensures.exact c.part.ensures.first c.part.ensures.order c.part.ensures.last))
