-- The sum is within bounds, so it is what it is.
use Rattle.std.proofs.Common.{FitsSigned, w32, pos, ◌+ℤ◌, slice_index_or, rules}
use Rattle.std.proofs.lemmas.Int.{to_z-of_z}
use Rattle.span_fill.proofs.WindingLemmas.{changes_from, grows_by_one}
use Rattle.span_fill.proofs.winding.change.Goals as goal

pub returns-clause-windings : goal.returns-clause-windings
returns-clause-windings c =
    let near = c.requires.few c.args.row (pos 0) c.requires.row in
    let by : FitsSigned w32 c.args.by = c.ranges.by in
    let here : FitsSigned w32 (slice_index_or c.args.changes.now c.args.row (pos 0)) = search rules in
    let sum : FitsSigned w32 (slice_index_or c.args.changes.now c.args.row (pos 0) +ℤ c.args.by) = search rules in
    simp to_z-of_z (changes_from c.args.row c.args.by (pos 0) c.args.changes.now c.requires.row)

pub returns-clause-few : goal.returns-clause-few
returns-clause-few c =
    let near = c.requires.few c.args.row (pos 0) c.requires.row in
    let by : FitsSigned w32 c.args.by = c.ranges.by in
    let here : FitsSigned w32 (slice_index_or c.args.changes.now c.args.row (pos 0)) = search rules in
    let sum : FitsSigned w32 (slice_index_or c.args.changes.now c.args.row (pos 0) +ℤ c.args.by) = search rules in
    simp to_z-of_z (grows_by_one c.args.row c.args.by (pos 0) c.args.changes.now c.requires.row c.requires.by)
