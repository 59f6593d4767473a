-- What is played without a pen has the points of the same with one.
use Rattle.std.proofs.Common.{◌≡◌, Bool, true, false, if◌then◌else◌, Some, ap, refl, sym, ◌∙◌}
use Rattle.mapping.specs.PlaceOf.{surface_of}
use Rattle.draw_ops.specs.OperationOf.{operation_of}
use Rattle.draw_ops.specs.declared.record_fault.RecordFault.TheVariants.{NibTooWide, OffPlane}
use Rattle.dc_stack.specs.Extents.{IsExtent}
use Rattle.dc_stack.specs.OperationFault.{all_land_within, fault_of, plane_points}
use Rattle.listing.specs.DryRunState.{without_pen}
use Rattle.listing.proofs.DryRunStateLemmas.{rejected_here}
use Rattle.listing.proofs.LargestLemmas.{played_bare, rejected_there, same_points}
use Rattle.listing.proofs.PathLemmas.{stays_landed}
use Rattle.listing.proofs.largest.too_wide.Goals as goal

pub returns-then-fits-clause-fault : goal.returns-then-fits-clause-fault
returns-then-fits-clause-fault c =
    let operation = operation_of c.args.op.now in
    let old = c.args.machine.now in
    let bare = c.select_no_pen.new.machine in
    let largest = surface_of c.args.largest in
    let same : fault_of operation (without_pen old.state) old.surface ≡ fault_of operation bare.state bare.surface =
    rw (c.select_no_pen.ensures.state, c.select_no_pen.ensures.goes_on.surface) refl in
    let points = plane_points operation old.state in
    let kept : plane_points operation bare.state ≡ points = ap (plane_points operation) c.select_no_pen.ensures.state ∙ same_points operation old.state in
    let extent : IsExtent c.plane_extent.result points = rw (c.plane_extent.ensures, ← kept) c.in-Ok.ensures.extent in
    let lands : all_land_within points largest ≡ true = sym (c.fits.ensures points extent) ∙ c.if-fits.true in
    played_bare c.fault_law.ensures c.nib_law.ensures operation old.state old.surface largest c.requires.too_wide c.requires.running.shows
    c.requires.running.no_larger (same ∙ c.in-Ok.ensures.stepped.no_fault)
    ∙ ap (λ (test : Bool). Some (if test then NibTooWide else OffPlane)) lands

pub returns-else-fits-clause-fault : goal.returns-else-fits-clause-fault
returns-else-fits-clause-fault c =
    let operation = operation_of c.args.op.now in
    let old = c.args.machine.now in
    let bare = c.select_no_pen.new.machine in
    let largest = surface_of c.args.largest in
    let same : fault_of operation (without_pen old.state) old.surface ≡ fault_of operation bare.state bare.surface =
    rw (c.select_no_pen.ensures.state, c.select_no_pen.ensures.goes_on.surface) refl in
    let points = plane_points operation old.state in
    let kept : plane_points operation bare.state ≡ points = ap (plane_points operation) c.select_no_pen.ensures.state ∙ same_points operation old.state in
    let extent : IsExtent c.plane_extent.result points = rw (c.plane_extent.ensures, ← kept) c.in-Ok.ensures.extent in
    let lands : all_land_within points largest ≡ false = sym (c.fits.ensures points extent) ∙ c.if-fits.false in
    played_bare c.fault_law.ensures c.nib_law.ensures operation old.state old.surface largest c.requires.too_wide c.requires.running.shows
    c.requires.running.no_larger (same ∙ c.in-Ok.ensures.stepped.no_fault)
    ∙ ap (λ (test : Bool). Some (if test then NibTooWide else OffPlane)) lands

pub returns-in-Err-clause-fault : goal.returns-in-Err-clause-fault
returns-in-Err-clause-fault c =
    let operation = operation_of c.args.op.now in
    let old = c.args.machine.now in
    let bare = c.select_no_pen.new.machine in
    let largest = surface_of c.args.largest in
    let same : fault_of operation (without_pen old.state) old.surface ≡ fault_of operation bare.state bare.surface =
    rw (c.select_no_pen.ensures.state, c.select_no_pen.ensures.goes_on.surface) refl in
    rejected_there c.fault_law.ensures c.nib_law.ensures operation old.state old.surface largest c.requires.too_wide (fault_of operation bare.state bare.surface)
    c.in-Err.field-0 same (rejected_here c.need_law.ensures operation bare c.in-Err.field-0 c.select_no_pen.ensures.capacity c.in-Err.ensures.rejected)

pub returns-then-fits-clause-landed : goal.returns-then-fits-clause-landed
returns-then-fits-clause-landed c =
    λ landed. stays_landed (operation_of c.args.op.now) c.select_no_pen.new.machine c.step_into.new.self c.in-Ok.ensures.stepped c.in-Ok.ensures.goes_on
    (c.select_no_pen.ensures.landed landed)

pub returns-else-fits-clause-landed : goal.returns-else-fits-clause-landed
returns-else-fits-clause-landed c =
    λ landed. stays_landed (operation_of c.args.op.now) c.select_no_pen.new.machine c.step_into.new.self c.in-Ok.ensures.stepped c.in-Ok.ensures.goes_on
    (c.select_no_pen.ensures.landed landed)
