-- Of a painting the nib alone is looked at, and of any other operation its points too.
use Rattle.std.proofs.Common.{◌≡◌, true, false, Option, ap, sym, ◌∙◌}
use Rattle.mapping.specs.PlaceOf.{surface_of}
use Rattle.draw_ops.specs.OperationOf.{operation_of}
use Rattle.dc_stack.specs.Drawing.{Drawing}
use Rattle.dc_stack.specs.OperationFault.{nib_fault}
use Rattle.listing.specs.DryRunState.{is_painting}
use Rattle.listing.proofs.largest.fault_met.Goals as goal

pub returns-then-is_painting : goal.returns-then-is_painting
returns-then-is_painting c =
    λ old plain extent drawn.
    let paints : is_painting (operation_of c.args.op.now) ≡ true = sym c.is_painting.ensures ∙ c.if-is_painting.true in
    rw (paints, plain) (c.nib_fault.ensures ∙ ap (λ (drawing : Option Drawing). nib_fault drawing (surface_of c.args.place)) drawn)

pub returns-else-is_painting : goal.returns-else-is_painting
returns-else-is_painting c =
    λ old plain extent drawn.
    let other : is_painting (operation_of c.args.op.now) ≡ false = sym c.is_painting.ensures ∙ c.if-is_painting.false in
    rw (other, plain) (c.place_fault.ensures (operation_of c.args.op.now) old extent drawn)
