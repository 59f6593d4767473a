-- The certificate of a file that plays.
use Rattle.std.specs.Prelude.{◌≡◌, ℕ, List, IsTrue}
use Rattle.mapping.specs.Image.{Image}
use Rattle.draw_ops.specs.RuleSets.{in_force}
use Rattle.draw_ops.specs.declared.rules.Rules.{Rules}
use Rattle.preflight_cert.specs.Answer.{IsAnswer, Shows, accepted}
use Rattle.preflight_cert.specs.CertificateReading.{CertificateValue, rules_in}
use Rattle.preflight_cert.specs.CertificateText.{certificate_text}
use Rattle.preflight_cert.specs.Preparation.{Prepares, is_bound}
use Rattle.preflight_cert.specs.TextLaws.{AreBytes, IsCertificateUnder}

-- bytes are the text of a certificate under these rules, all of whose numbers are within their limits
pub record AreCertificate (rules : Rules) (bytes : List ℕ) : Type 0 where
  pub value : CertificateValue
  pub is_certificate : IsCertificateUnder rules value
  pub is_text : bytes ≡ certificate_text rules value
  pub same_rules : rules_in bytes ≡ rules

-- a file has a certificate under rules at a bound
pub record HasPrepared (rules : Rules) (file : List ℕ) (width height : ℕ) : Type 0 where
  pub bytes : List ℕ
  pub prepared : Prepares rules file width height bytes

-- A file that plays under rules at a bound has a certificate for it. What is prepared for a file is a certificate under
-- the rules in force, and it is accepted.
pub record PreparedLaws : Type 0 where
  pub exists :
      (rules : Rules) (file : List ℕ) (width height : ℕ) (image : Image) → IsTrue (is_bound width height)
      → Shows rules file width height image → HasPrepared rules file width height
  pub within :
      (rules : Rules) (file bytes : List ℕ) (width height : ℕ) → AreBytes file → Prepares rules file width height bytes
      → AreCertificate (in_force rules) bytes
  pub accepts :
      (rules : Rules) (file bytes : List ℕ) (width height : ℕ) → AreBytes file → Prepares rules file width height bytes
      → IsAnswer file bytes accepted
