-- A prepared certificate is accepted, and it is the least that is.
use Rattle.std.specs.Prelude.{◌≡◌, ◌≤◌, ℕ, List, [], ◌∷◌, None, Ok}
use Rattle.mapping.specs.Boxes.{HasPoint}
use Rattle.mapping.specs.Nibs.{CoversNib}
use Rattle.mapping.specs.declared.geometry.Point.{Point}
use Rattle.draw_ops.specs.Content.{Content}
use Rattle.draw_ops.specs.declared.rules.Rules.{Rules}
use Rattle.dc_stack.specs.State.{start_of}
use Rattle.meta_headers.specs.Headers.{OpenedValue}
use Rattle.meta_headers.specs.Opening.{surface_for}
use Rattle.meta_headers.specs.OpeningRules.{opened_by}
use Rattle.preflight_cert.specs.Answer.{Fits}
use Rattle.preflight_cert.specs.CertificateReading.{CertificateValue}
use Rattle.preflight_cert.specs.NeedLaws.{AreWithin}
use Rattle.preflight_cert.specs.Preparation.{IsPrepared}
use Rattle.preflight_cert.specs.Stop.{stop_of}
use Rattle.preflight_cert.specs.declared.certificate_entry.Entry.{Entry}

-- an entry is for the same record as another, its box lies within the other's, and its nib is no larger
pub record IsHeldBy (entry other : Entry) : Type 0 where
  pub number : entry.number ≡ other.number
  pub box : (point : Point) → HasPoint entry.bounds point → HasPoint other.bounds point
  pub nib : CoversNib other.nib entry.nib

-- entries are within others, one by one
abbrev pub AreHeldBy : List Entry → List Entry → Type 0
AreHeldBy [] [] = Unit
AreHeldBy [] (other ∷ others) = ⊥
AreHeldBy (entry ∷ entries) [] = ⊥
AreHeldBy (entry ∷ entries) (other ∷ others) =
    IsHeldBy entry other × AreHeldBy entries others

-- a certificate asks for no more than another: its boxes lie within the other's, and its nibs, needs and writes are at
-- most the other's
pub record IsNoMore (c other : CertificateValue) : Type 0 where
  pub entries : AreHeldBy c.entries other.entries
  pub needs : AreWithin c.needs other.needs
  pub writes : c.writes ≤ other.writes

-- The certificate that is prepared for records that don't stop at the bound fits them. There is only one, and each
-- other one that fits them at that bound asks for no less.
pub record PreparationLaws : Type 0 where
  pub fits :
      (c : CertificateValue) (o : OpenedValue) (content : Content) (width height : ℕ) → IsPrepared c o content width height
      → stop_of content (start_of o) (surface_for o width height) ≡ None → Fits c o content
  pub one :
      (c other : CertificateValue) (o : OpenedValue) (content : Content) (width height : ℕ)
      → IsPrepared c o content width height → IsPrepared other o content width height → c ≡ other
  pub least :
      (c other : CertificateValue) (rules : Rules) (file : List ℕ) (o : OpenedValue) (content : Content) → opened_by rules file ≡ Ok o
      → IsPrepared c o content other.max_width other.max_height → Fits other o content → IsNoMore c other
