-- The rules that are in force, and those that are read.
use Rattle.std.proofs.Common.{◌≡◌, ℕ, List, Bool, true, false, Result, Ok, refl, ap, sym, ◌∙◌}
use Rattle.draw_ops.specs.Results.{result_map}
use Rattle.draw_ops.specs.RuleSets.{in_force, is_print}
use Rattle.draw_ops.specs.declared.rules.Rules.{Rules}
use Rattle.meta_headers.specs.Headers.{OpenedValue}
use Rattle.meta_headers.specs.Opening.{opened}
use Rattle.meta_headers.specs.OpeningRules.{opened_by, reopened}
use Rattle.preflight_cert.specs.CertificateReading.{is_by_print, rules_in}

-- the rules in force are in force
pub in_force_twice : (rules : Rules) → in_force (in_force rules) ≡ in_force rules
in_force_twice rules = by_profile (is_print rules) refl
  where
    by_profile : (fine : Bool) → is_print rules ≡ fine → in_force (in_force rules) ≡ in_force rules
    by_profile true e = let force : in_force rules ≡ rules = rw e refl in ap in_force force
    by_profile false e = rw e refl

-- rules that are read are in force
pub read_in_force : (bytes : List ℕ) → in_force (rules_in bytes) ≡ rules_in bytes
read_in_force bytes = by_profile (is_by_print bytes) refl
  where
    by_profile : (print : Bool) → is_by_print bytes ≡ print → in_force (rules_in bytes) ≡ rules_in bytes
    by_profile true e = rw e refl
    by_profile false e = rw e refl

-- a file that was opened, opened again under the rules that are read
pub opened_again : (file bytes : List ℕ) (o again : OpenedValue) (rules : Rules) → opened file ≡ Ok o → rules ≡ rules_in bytes → again ≡ reopened rules o
    → opened_by (rules_in bytes) file ≡ Ok again
opened_again file bytes o again rules opens same e =
    ap (result_map (reopened (rules_in bytes))) opens
    ∙ ap (λ (it : OpenedValue). Ok it) (ap (λ (r : Rules). reopened r o) (sym same) ∙ sym e)
