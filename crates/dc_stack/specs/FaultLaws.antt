-- How faults depend on the surface.
use Rattle.std.specs.Prelude.{◌≡◌, ◌≢◌, ◌⊎◌, Some, None}
use Rattle.mapping.specs.PlacingLaws.{IsNoLarger, ShowsFrame}
use Rattle.mapping.specs.Surface.{Surface}
use Rattle.draw_ops.specs.Operation.{Operation}
use Rattle.draw_ops.specs.declared.record_fault.RecordFault.{RecordFault}
use Rattle.draw_ops.specs.declared.record_fault.RecordFault.TheVariants.{NibTooWide, OffPlane}
use Rattle.dc_stack.specs.OperationFault.{fault_of}
use Rattle.dc_stack.specs.State.{State}

-- Every fault except being off the plane or having a nib that is too wide is the same on each surface. An operation
-- without a fault on a surface has none on any that is no larger. So one with a fault has one on each that is no
-- smaller: the same, except that a nib that is too wide may be off the plane there.
pub record FaultLaws : Type 0 where
  pub by_surface :
      (operation : Operation) (state : State) (s other : Surface) (fault : RecordFault)
      → fault ≢ OffPlane → fault ≢ NibTooWide → fault_of operation state s ≡ Some fault → fault_of operation state other ≡ Some fault
  pub none_on_smaller :
      (operation : Operation) (state : State) (smaller larger : Surface) → ShowsFrame larger → IsNoLarger smaller larger
      → fault_of operation state larger ≡ None → fault_of operation state smaller ≡ None
  pub same_on_larger :
      (operation : Operation) (state : State) (smaller larger : Surface) (fault : RecordFault) → ShowsFrame larger → IsNoLarger smaller larger
      → fault ≢ NibTooWide → fault_of operation state smaller ≡ Some fault → fault_of operation state larger ≡ Some fault
  pub too_wide_on_larger :
      (operation : Operation) (state : State) (smaller larger : Surface) → ShowsFrame larger → IsNoLarger smaller larger
      → fault_of operation state smaller ≡ Some NibTooWide
      → (fault_of operation state larger ≡ Some NibTooWide) ⊎ (fault_of operation state larger ≡ Some OffPlane)
