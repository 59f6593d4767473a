-- What runs make of an operation, on the smallest surface and on the largest.
use Rattle.std.proofs.Common.{◌≡◌, ◌≢◌, ◌⊎◌, inl, inr, Option, Some, None, refl, ap, subst, sym, ◌∙◌}
use Rattle.std.specs.Option.{option_map}
use Rattle.mapping.specs.PlacingLaws.{IsNoLarger, ShowsFrame}
use Rattle.mapping.specs.Surface.{Surface}
use Rattle.draw_ops.specs.Operation.{Operation}
use Rattle.draw_ops.specs.declared.fault.Fault.{Fault}
use Rattle.draw_ops.specs.declared.fault.Fault.TheVariants.{Record}
use Rattle.draw_ops.specs.declared.record_fault.RecordFault.{RecordFault}
use Rattle.draw_ops.specs.declared.record_fault.RecordFault.TheVariants.{NibTooWide, OffPlane}
use Rattle.dc_stack.specs.FaultLaws.{FaultLaws}
use Rattle.dc_stack.specs.MachineState.{HasFullCapacity, MachineState, RejectsStep}
use Rattle.dc_stack.specs.OperationFault.{fault_of}
use Rattle.dc_stack.specs.State.{State}
use Rattle.preflight_cert.specs.NeedLaws.{NeedLaws}
use Rattle.listing.specs.DryRunState.{DryRunState, gone_on}

-- a fault is too wide a nib, or isn't
too_wide_or_not : (fault : RecordFault) → (fault ≡ NibTooWide) ⊎ (fault ≢ NibTooWide)
too_wide_or_not NibTooWide = inl refl
too_wide_or_not fault = inr (λ e. cc)

-- what a fault of a surface is on a larger one: the same, or being off the plane in place of too wide a nib
abbrev pub OnLarger : RecordFault → Option RecordFault → Type 0
OnLarger fault there = (there ≡ Some fault) ⊎ ((fault ≡ NibTooWide) × (there ≡ Some OffPlane))

module _ (laws : FaultLaws) (operation : Operation) (state : State) (s largest : Surface) (shows : ShowsFrame largest) (down : IsNoLarger s largest) where
  wide_on_larger : (fault_of operation state largest ≡ Some NibTooWide) ⊎ (fault_of operation state largest ≡ Some OffPlane) → OnLarger NibTooWide (fault_of operation state largest)
  wide_on_larger (inl wide) = inl wide
  wide_on_larger (inr off) = inr (refl, off)

  by_width : (fault : RecordFault) → (fault ≡ NibTooWide) ⊎ (fault ≢ NibTooWide) → fault_of operation state s ≡ Some fault → OnLarger fault (fault_of operation state largest)
  by_width fault (inl wide) h =
      subst (λ (f : RecordFault). OnLarger f (fault_of operation state largest)) (sym wide)
      (wide_on_larger (laws.too_wide_on_larger operation state s largest shows down (h ∙ ap Some wide)))
  by_width fault (inr not_wide) h = inl (laws.same_on_larger operation state s largest fault shows down not_wide h)

  pub on_larger_surface : (fault : RecordFault) → fault_of operation state s ≡ Some fault → OnLarger fault (fault_of operation state largest)
  on_larger_surface fault h = by_width fault (too_wide_or_not fault) h

-- a machine with room for any file refuses by a fault
pub rejected_here : NeedLaws → (operation : Operation) (m : MachineState) (fault : Fault) → HasFullCapacity m → RejectsStep operation m fault → option_map Record (fault_of operation m.state m.surface) ≡ Some fault
rejected_here needs operation m fault capacity (inl h) = h
rejected_here needs operation m fault capacity (inr wants) = absurd (needs.full operation m fault capacity wants)

-- behind one no run goes on
pub none_after : (found : Option RecordFault) (fault : Fault) (dry_run_state : DryRunState) → option_map Record found ≡ Some fault → None ≡ gone_on found dry_run_state
none_after None fault dry_run_state h = cc
none_after (Some here) fault dry_run_state h = refl

-- a fault that lies in a record is that on a larger surface, unless it is too wide a nib
pub same_there : FaultLaws → (operation : Operation) (state : State) (s largest : Surface) → ShowsFrame largest → IsNoLarger s largest → (found : Option RecordFault) (fault : Fault) → found ≡ fault_of operation state s → option_map Record found ≡ Some fault → (found ≡ Some NibTooWide → ⊥) → found ≡ fault_of operation state largest
same_there laws operation state s largest shows down None fault is h narrow = cc
same_there laws operation state s largest shows down (Some here) fault is h narrow =
    sym (laws.same_on_larger operation state s largest here shows down (λ e. narrow (ap Some e)) (sym is))
