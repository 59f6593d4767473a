-- Listings under the core profile.
use Rattle.std.specs.Prelude.{◌≡◌, Bool, false, List, ℕ, Some}
use Rattle.draw_ops.specs.Content.{StepValue}
use Rattle.draw_ops.specs.RuleSets.{is_print}
use Rattle.draw_ops.specs.declared.rules.Rules.{Rules}
use Rattle.meta_headers.specs.Opening.{opened}
use Rattle.listing.specs.DryRunState.{DryRunState, dry_run_state_if, fault_met, run_fault}
use Rattle.listing.specs.Listing.{listing_of, listing_with}

-- Under the core profile a file's listing is that of the file as it opens without rules. The fault that runs have in a
-- record is that of its operation, whether the records contain EMF+ or not.
pub record CoreListingLaws : Type 0 where
  pub listing :
      (rules : Rules) (file : List ℕ) → is_print rules ≡ false
      → listing_of rules file ≡ listing_with (dry_run_state_if (opened file)) file
  pub faults :
      (is_end : Bool) (dry_run_state : DryRunState) (step : StepValue) → is_print dry_run_state.state.rules ≡ false
      → run_fault is_end (Some dry_run_state) step ≡ fault_met step.operation dry_run_state.state dry_run_state.largest
