-- The parts of a certificate's text, one behind another, are the whole.
use Rattle.std.proofs.Common.{◌≡◌, ℕ, Bool, true, false, if◌then◌else◌, List, [], ◌++◌, refl, ap, ◌∙◌}
use Rattle.std.proofs.lemmas.List.{append_assoc}
use Rattle.std.specs.Prelude.{codes}
use Rattle.draw_ops.specs.RuleSets.{allowance_bits, is_print}
use Rattle.draw_ops.specs.declared.rules.Rules.{Rules}
use Rattle.preflight_cert.specs.CertificateReading.{signature_of, print_signature}
use Rattle.preflight_cert.specs.CertificateText.{HeadValue, version_signature, number_text, signature_text, text_with}
use Rattle.preflight_cert.specs.TextParts.{bound_text, signature_numbers, totals_text}
use Rattle.preflight_cert.specs.declared.version.Version.{Version}
use Rattle.preflight_cert.specs.declared.version.Version.TheVariants.{Mpc1, Mpc2}

-- the mark is a number in four bytes
pub number_is_signature : (version : Version) → number_text (signature_of version) ≡ version_signature version
unfolding signature_of
number_is_signature Mpc1 = refl
number_is_signature Mpc2 = refl

-- so is that of the print profile, behind which stands what is allowed
print_is_mark : number_text print_signature ≡ codes "MPC3"
unfolding print_signature
print_is_mark = refl

numbers_are_signature : (rules : Rules) (version : Version) → signature_numbers rules version ≡ signature_text rules version
numbers_are_signature rules version = by_profile (is_print rules)
  where
    by_profile : (fine : Bool) → (if fine then number_text print_signature ++ number_text (allowance_bits rules.allowed) else number_text (signature_of version))
        ≡ (if fine then codes "MPC3" ++ number_text (allowance_bits rules.allowed) else version_signature version)
    by_profile true = ap (λ (mark : List ℕ). mark ++ number_text (allowance_bits rules.allowed)) print_is_mark
    by_profile false = number_is_signature version

parts_are : (rules : Rules) (version : Version) (head : HeadValue) (count : ℕ) (after : List ℕ)
    → bound_text rules version head.max_width head.max_height ++ (totals_text head.writes head.needs count ++ after) ≡ text_with rules version head count after
parts_are rules version head count after =
    append_assoc (signature_numbers rules version) (number_text head.max_width ++ number_text head.max_height) (totals_text head.writes head.needs count ++ after)
    ∙ ap (λ (mark : List ℕ). mark ++ (number_text head.max_width ++ (number_text head.max_height ++ (totals_text head.writes head.needs count ++ after))))
    (numbers_are_signature rules version)

-- three parts, each put behind the text
three_parts : (start first second third : List ℕ) (middle next : List ℕ) → middle ≡ start ++ first → next ≡ middle ++ second
    → next ++ third ≡ start ++ (first ++ (second ++ third))
three_parts start first second third middle next e f = rw (f, e) (append_assoc (start ++ first) second third ∙ append_assoc start first (second ++ third))

-- the parts of a certificate's text, each put behind the others
pub parts_with : (rules : Rules) (version : Version) (head : HeadValue) (count : ℕ) (after : List ℕ) (first second whole : List ℕ)
    → first ≡ bound_text rules version head.max_width head.max_height → second ≡ first ++ totals_text head.writes head.needs count → whole ≡ second ++ after
    → whole ≡ text_with rules version head count after
parts_with rules version head count after first second whole e f g =
    g ∙ three_parts [] (bound_text rules version head.max_width head.max_height) (totals_text head.writes head.needs count) after first second e f
    ∙ parts_are rules version head count after
