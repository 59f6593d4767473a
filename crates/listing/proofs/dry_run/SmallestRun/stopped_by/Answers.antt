-- A fault on the smallest surface is that on the largest, unless it is too wide a nib.
use Rattle.std.proofs.Common.{◌≡◌, true, false, Some, ap, sym, ◌∙◌}
use Rattle.std.specs.Option.{option_map}
use Rattle.mapping.specs.PlacingLaws.{IsNoLarger, ShowsFrame}
use Rattle.draw_ops.specs.OperationOf.{operation_of}
use Rattle.draw_ops.specs.declared.fault.Fault.TheVariants.{Record}
use Rattle.draw_ops.specs.declared.record_fault.RecordFault.TheVariants.{NibTooWide}
use Rattle.dc_stack.specs.OperationFault.{fault_of}
use Rattle.listing.specs.DryRunState.{PathLands, is_painting}
use Rattle.listing.proofs.DryRunStateLemmas.{same_there}
use Rattle.listing.proofs.PaintingLemmas.{painting_found}
use Rattle.listing.proofs.dry_run.SmallestRun.stopped_by.Goals as goal

pub returns-else-is_too_wide : goal.returns-else-is_too_wide
returns-else-is_too_wide c =
    let operation = operation_of c.args.op.now in
    let old = c.args.self.now in
    let found = c.in_record-found.result in
    let shows : ShowsFrame old.largest = rw (← c.self.view_is) c.self.invariant.running.shows in
    let down : IsNoLarger old.smallest old.largest = rw (← c.self.view_is) c.self.invariant.running.no_larger in
    let is : found ≡ fault_of operation old.state old.smallest = c.in_record-found.ensures (fault_of operation old.state old.smallest) c.requires in
    let narrow : found ≡ Some NibTooWide → ⊥ =
    λ e. let both : true ≡ false = sym (c.is_too_wide.ensures.1 e) ∙ c.if-is_too_wide.false in cc in
    let other : is_painting operation ≡ false = sym c.is_painting.ensures ∙ c.if-is_painting.false in
    rw other (same_there c.fault_law.ensures operation old.state old.smallest old.largest shows down found c.args.fault is (ap (option_map Record) is ∙ c.requires) narrow)

pub returns-then-is_painting : goal.returns-then-is_painting
returns-then-is_painting c =
    let operation = operation_of c.args.op.now in
    let old = c.args.self.now in
    let found = c.in_record-found.result in
    let shows : ShowsFrame old.largest = rw (← c.self.view_is) c.self.invariant.running.shows in
    let down : IsNoLarger old.smallest old.largest = rw (← c.self.view_is) c.self.invariant.running.no_larger in
    let lands : PathLands old.state.path old.smallest = rw (← c.self.view_is) c.self.invariant.landed in
    let is : found ≡ fault_of operation old.state old.smallest = c.in_record-found.ensures (fault_of operation old.state old.smallest) c.requires in
    let paints : is_painting operation ≡ true = sym c.is_painting.ensures ∙ c.if-is_painting.true in
    rw paints
    (painting_found c.fault_law.ensures c.nib_law.ensures operation old.state old.smallest old.largest shows down lands found c.args.fault paints is (ap (option_map Record) is ∙ c.requires))
