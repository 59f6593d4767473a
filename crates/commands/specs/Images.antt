-- The images that commands write, and the surfaces that they reject.
use Rattle.std.specs.Prelude.{◌≡◌, ◌≤◌, ◌<◌, ◌⊎◌, ℕ, List, Option, Some, None, Ok}
use Rattle.draw_ops.specs.declared.fault.Fault.{Fault}
use Rattle.draw_ops.specs.declared.fault.Fault.TheVariants.{BadImage, SurfaceTooLarge}
use Rattle.mapping.specs.Image.{Image}
use Rattle.canvas.specs.Ppm.{ppm_text}
use Rattle.canvas.specs.PpmReading.{read_ppm}
use Rattle.preflight_cert.specs.Answer.{IsAnswer, accepted, rejects}
use Rattle.preflight_cert.specs.CertificateReading.{CertificateValue, read_certificate, rules_in}
use Rattle.preflight_cert.specs.Run.{Run, shown}

-- the bytes are a certificate for surfaces of this size
pub record Allows (certificate : List ℕ) (width height : ℕ) : Type 0 where
  pub value : CertificateValue
  pub read : read_certificate certificate ≡ Ok value
  pub wide : width ≤ value.max_width
  pub high : height ≤ value.max_height

-- the bytes are a certificate for smaller surfaces only
pub record Excludes (certificate : List ℕ) (width height : ℕ) : Type 0 where
  pub value : CertificateValue
  pub read : read_certificate certificate ≡ Ok value
  pub larger : value.max_width < width ⊎ value.max_height < height

-- The certificate is accepted for the file and allows the surface, and the file's run under the certificate's rules makes
-- the image from the start image.
pub record IsPlayed (file certificate : List ℕ) (width height : ℕ) (start image : Image) : Type 0 where
  pub accepted : IsAnswer file certificate accepted
  pub allowed : Allows certificate width height
  pub run : Run (rules_in certificate) file width height start (shown image)

-- the text is the P6 text of the image that the file's run makes from the start image
pub record IsPlayedText (file certificate : List ℕ) (width height : ℕ) (start : Image) (text : List ℕ) : Type 0 where
  pub image : Image
  pub played : IsPlayed file certificate width height start image
  pub is_text : text ≡ ppm_text image

-- the certificate is accepted for the file, but the surface exceeds its bound
pub record IsRejectedAsTooLarge (file certificate : List ℕ) (width height : ℕ) (number : Option ℕ) (fault : Fault) : Type 0 where
  pub accepted : IsAnswer file certificate accepted
  pub excluded : Excludes certificate width height
  pub in_none : number ≡ None
  pub is_fault : fault ≡ SurfaceTooLarge

-- the check rejects the pair, or else the surface exceeds the certificate's bound
abbrev pub RejectsPlay : List ℕ → List ℕ → ℕ → ℕ → Option ℕ → Fault → Type 0
RejectsPlay file certificate width height number fault =
    IsAnswer file certificate (rejects number fault) ⊎ IsRejectedAsTooLarge file certificate width height number fault

-- The bytes are a valid P6 image, and the file is played over it, at its size.
pub record IsPlayedOver (file certificate bytes : List ℕ) (image : Image) : Type 0 where
  pub start : Image
  pub read : read_ppm bytes ≡ Some start
  pub played : IsPlayed file certificate start.width start.height start image

-- the text is the P6 text of the file played over an image
pub record IsPlayedOverText (file certificate bytes text : List ℕ) : Type 0 where
  pub image : Image
  pub played : IsPlayedOver file certificate bytes image
  pub is_text : text ≡ ppm_text image

-- the certificate is accepted for the file, but the bytes aren't a valid image
pub record IsNoImage (file certificate bytes : List ℕ) (number : Option ℕ) (fault : Fault) : Type 0 where
  pub accepted : IsAnswer file certificate accepted
  pub unread : read_ppm bytes ≡ None
  pub in_none : number ≡ None
  pub is_fault : fault ≡ BadImage

-- the bytes are an image that exceeds the certificate's bound
pub record IsTooLargeImage (file certificate bytes : List ℕ) (number : Option ℕ) (fault : Fault) : Type 0 where
  pub start : Image
  pub read : read_ppm bytes ≡ Some start
  pub larger : IsRejectedAsTooLarge file certificate start.width start.height number fault

-- the check rejects the pair, or else the bytes aren't a valid image, or else the image exceeds the certificate's bound
abbrev pub RejectsOver : List ℕ → List ℕ → List ℕ → Option ℕ → Fault → Type 0
RejectsOver file certificate bytes number fault =
    (IsAnswer file certificate (rejects number fault) ⊎ IsNoImage file certificate bytes number fault)
    ⊎ IsTooLargeImage file certificate bytes number fault
