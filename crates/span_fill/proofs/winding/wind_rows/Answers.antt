-- The windings change at the first row and behind the last.
use Rattle.std.proofs.Common.{FitsSigned, w32, ◌+◌, ◌^◌, pos, ◌-ℤ◌, lit≤, arith, rules}
use Rattle.std.proofs.lemmas.Int.{to_z-of_z}
use Rattle.span_fill.proofs.WindingLemmas.{all_wider, winds_rows}
use Rattle.span_fill.proofs.winding.wind_rows.Goals as goal

pub change-requires-2-clause-few : goal.change-requires-2-clause-few
change-requires-2-clause-few c =
    all_wider (2 ^ 22 + 1) (2 ^ 23) c.change.new.changes (lit≤ tt) (c.change.ensures.few (2 ^ 22) c.requires.few)

pub returns-clause-windings : goal.returns-clause-windings
returns-clause-windings c =
    let by : FitsSigned w32 c.args.by = c.ranges.by in
    let flipped : FitsSigned w32 (pos 0 -ℤ c.args.by) = search rules in
    let first = simp to_z-of_z at c.change.ensures.windings in
    let last = simp to_z-of_z at c.change-2.ensures.windings in
    winds_rows c.args.rows c.args.by c.args.changes.now c.change.new.changes c.change-2.new.changes c.requires.order first last

pub returns-clause-few : goal.returns-clause-few
returns-clause-few c = λ most all.
    all_wider (most + 1 + 1) (most + 2) c.change-2.new.changes (omega arith) (c.change-2.ensures.few (most + 1) (c.change.ensures.few most all))
