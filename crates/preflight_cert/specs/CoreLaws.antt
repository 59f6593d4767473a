-- Runs and certificates under the core profile.
use Rattle.std.specs.Prelude.{◌≡◌, if◌then◌else◌, false, ℕ, List, ◌++◌, length, None, Ok}
use Rattle.std.specs.List.{flat_map}
use Rattle.mapping.specs.Plane.{MapNumbers}
use Rattle.mapping.specs.Surface.{Surface}
use Rattle.draw_ops.specs.Content.{Content, StepValue}
use Rattle.draw_ops.specs.RuleSets.{core_rules, is_print}
use Rattle.draw_ops.specs.declared.rules.Rules.{Rules}
use Rattle.dc_stack.specs.State.{State, start_of}
use Rattle.meta_headers.specs.Headers.{OpenedValue}
use Rattle.meta_headers.specs.OpeningRules.{opened_by}
use Rattle.preflight_cert.specs.After.{file_uses, state_after}
use Rattle.preflight_cert.specs.CertificateReading.{CertificateValue, rules_in}
use Rattle.preflight_cert.specs.CertificateText.{certificate_text, entry_text, head_of, numbers_with, version_signature}
use Rattle.preflight_cert.specs.Preparation.{have_single_pixels, version_for}
use Rattle.preflight_cert.specs.Stop.{step_stop, stop_of}
use Rattle.preflight_cert.specs.declared.certificate_entry.Entry.{Entry}
use Rattle.preflight_cert.specs.declared.version.Version.TheVariants.{Mpc1, Mpc2}

-- a unit has one part on both axes of a map
pub record HasOnePart (map : MapNumbers) : Type 0 where
  pub x : map.x.parts ≡ 1
  pub y : map.y.parts ≡ 1

-- Under the core profile a content stops only where its steps stop, or its records break, whether it contains EMF+ or
-- not. A content that doesn't stop uses nothing that can be allowed. A unit has one part after any steps of a file. A
-- certificate begins with the signature of its version, which is the first if all nibs are one pixel, and is read back
-- with the core rules.
pub record CoreLaws : Type 0 where
  pub stops : (content : Content) (state : State) (s : Surface) → is_print state.rules ≡ false → stop_of content state s ≡ step_stop content state s
  pub uses_nothing :
      (content : Content) (o : OpenedValue) (s : Surface) → is_print o.rules ≡ false → stop_of content (start_of o) s ≡ None
      → file_uses content o ≡ record { held_deletion = 0; emf_plus = 0 }
  pub one_part :
      (rules : Rules) (file : List ℕ) (o : OpenedValue) (steps : List StepValue) → is_print rules ≡ false → opened_by rules file ≡ Ok o
      → HasOnePart (state_after steps (start_of o)).dc.map
  pub text :
      (rules : Rules) (c : CertificateValue) → is_print rules ≡ false
      → certificate_text rules c ≡ version_signature c.version ++ numbers_with (head_of c) (length c.entries) (flat_map (entry_text c.version) c.entries)
  pub version :
      (rules : Rules) (entries : List Entry) → is_print rules ≡ false
      → version_for rules entries ≡ (if have_single_pixels entries then Mpc1 else Mpc2)
  pub rules_back : (rules : Rules) (c : CertificateValue) → is_print rules ≡ false → rules_in (certificate_text rules c) ≡ core_rules
