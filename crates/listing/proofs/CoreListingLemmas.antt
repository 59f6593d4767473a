-- Listings under the core profile.
use Rattle.std.proofs.Common.{◌≡◌, ◌∙◌, ◌&&◌, if◌then◌else◌, Bool, true, false, Option, Some, None, Result, refl, ap}
use Rattle.std.specs.Option.{option_or}
use Rattle.draw_ops.specs.RuleSets.{is_print}
use Rattle.draw_ops.specs.declared.fault.Fault.{Fault}
use Rattle.draw_ops.specs.declared.record_fault.RecordFault.{RecordFault}
use Rattle.draw_ops.specs.declared.record_fault.RecordFault.TheVariants.{EmfPlusAlone}
use Rattle.draw_ops.specs.declared.rules.Rules.{Rules}
use Rattle.meta_headers.specs.Headers.{OpenedValue}
use Rattle.meta_headers.specs.OpeningLaws.{OpeningLaws}
use Rattle.preflight_cert.specs.declared.emf_plus.EmfPlus.{EmfPlus}
use Rattle.listing.specs.CoreListingLaws.{CoreListingLaws}
use Rattle.listing.specs.DryRunState.{dry_run_state_if, end_fault, fault_met}
use Rattle.listing.specs.Listing.{listing_with}

-- what doesn't hold is no fault of the end record
never : (is_end : Bool) → (if is_end && false then Some EmfPlusAlone else None) ≡ None
never true = refl
never false = refl

no_end_fault : (is_end : Bool) (rules : Rules) (found : EmfPlus) → is_print rules ≡ false → end_fault is_end rules found ≡ None
no_end_fault is_end rules found core = rw core (never is_end)

or_none : (fault : Option RecordFault) → option_or fault None ≡ fault
or_none None = refl
or_none (Some fault) = refl

pub core_listing_laws : OpeningLaws → CoreListingLaws
core_listing_laws opening = record {
  listing = λ rules file core.
      ap (λ (result : Result OpenedValue Fault). listing_with (dry_run_state_if result) file) (opening.core rules file core);
  faults = λ is_end dry_run_state step core.
      let met = fault_met step.operation dry_run_state.state dry_run_state.largest in
      ap (λ (fault : Option RecordFault). option_or met fault) (no_end_fault is_end dry_run_state.state.rules dry_run_state.found core) ∙ or_none met;
}
