-- How playing a file into a buffer ends.
use Rattle.std.specs.Prelude.{◌≡◌, ◌≤◌, ◌<◌, ◌⊎◌, ℕ, ◌+◌, ◌*◌, Bool, true, false, ◌&&◌, nat_le, List, length, None, Ok}
use Rattle.mapping.specs.Image.{Image}
use Rattle.draw_ops.specs.declared.fault.Fault.TheVariants.{SurfaceTooLarge}
use Rattle.draw_ops.specs.declared.rules.Rules.{Rules}
use Rattle.canvas.specs.Ppm.{raster}
use Rattle.canvas.specs.Samples.{image_at}
use Rattle.meta_headers.specs.File.{IsOpenedFrom}
use Rattle.preflight_cert.specs.Answer.{IsAnswer, IsRejectedWith, accepted}
use Rattle.preflight_cert.specs.CertificateOf.{certificate_of}
use Rattle.preflight_cert.specs.CertificateReading.{CertificateValue, read_certificate, rules_in}
use Rattle.preflight_cert.specs.Preparation.{IsBoundFault, is_bound}
use Rattle.preflight_cert.specs.Reached.{OpensBoth}
use Rattle.preflight_cert.specs.Run.{Run, shown, white}
use Rattle.preflight_cert.specs.declared.cleared.Cleared.{Cleared}
use Rattle.preflight_cert.specs.declared.refusal.Refusal.{Refusal}
use Rattle.player.specs.Bounds.{IsWithinBound}
use Rattle.player.specs.Rows.{CopiesLayout, layout_size}
use Rattle.buffer_calls.specs.Texts.{IsCopied, IsTooShort}
use Rattle.buffer_calls.specs.declared.outcome.Outcome.{Outcome}
use Rattle.buffer_calls.specs.declared.outcome.Outcome.TheVariants.{Done, OutOfMemory, Rejected, TooShort}
use Rattle.buffer_calls.specs.declared.placed_rows.PlacedRows.{PlacedRows}

-- the number of samples of a surface: three for each pixel
abbrev pub sample_count : ℕ → ℕ → ℕ
sample_count width height = 3 * width * height

-- the certificate is accepted for the file, and it is for surfaces of this size
pub record IsPlayable (file certificate : List ℕ) (width height : ℕ) : Type 0 where
  pub accepts : IsAnswer file certificate accepted
  pub value : CertificateValue
  pub read : read_certificate certificate ≡ Ok value
  pub wide : width ≤ value.max_width
  pub high : height ≤ value.max_height

-- the certificate is accepted for the file, but it is for smaller surfaces only
pub record IsTooLarge (file certificate : List ℕ) (width height : ℕ) (r : Refusal) : Type 0 where
  pub accepts : IsAnswer file certificate accepted
  pub value : CertificateValue
  pub read : read_certificate certificate ≡ Ok value
  pub larger : value.max_width < width ⊎ value.max_height < height
  pub in_none : r.number ≡ None
  pub is_fault : r.fault ≡ SurfaceTooLarge

-- A play is rejected: its numbers aren't valid, or else the check rejects the pair, or else the surface exceeds the
-- bound.
abbrev pub RejectsPlay : Bool → List ℕ → List ℕ → ℕ → ℕ → Refusal → Type 0
RejectsPlay false file certificate width height r = IsBoundFault r.number r.fault
RejectsPlay true file certificate width height r = IsRejectedWith file certificate r ⊎ IsTooLarge file certificate width height r

-- A call that plays a file on a surface, by three things: whether its numbers are valid, how many bytes the buffer must
-- have, and what the buffer holds after a play under some rules, by what it held before.
module _ (valid : Bool) (width height needed : ℕ) (plays : Rules → List ℕ → List ℕ → List ℕ → Type 0) where
  -- the file was played into the buffer
  pub record IsPlayed (file certificate : List ℕ) (count : ℕ) (old new : List ℕ) : Type 0 where
    pub is_valid : valid ≡ true
    pub playable : IsPlayable file certificate width height
    pub counted : count ≡ needed
    pub capacity : needed ≤ length old
    pub played : plays (rules_in certificate) file old new

  -- the file may be played, but the buffer is too short
  pub record NeedsBuffer (file certificate : List ℕ) (count : ℕ) (old new : List ℕ) : Type 0 where
    pub is_valid : valid ≡ true
    pub playable : IsPlayable file certificate width height
    pub counted : count ≡ needed
    pub short : IsTooShort count old new

  -- an allocation failed, after the numbers were found valid and both inputs were read
  pub record LacksMemory (file certificate old new : List ℕ) : Type 0 where
    pub is_valid : valid ≡ true
    pub opens : OpensBoth file certificate
    pub kept : new ≡ old

  -- How the call ends. Only a call that is done changes the buffer.
  abbrev pub EndsPlaying : List ℕ → List ℕ → List ℕ → List ℕ → Outcome → Type 0
  EndsPlaying file certificate old new (Done count) = IsPlayed file certificate count old new
  EndsPlaying file certificate old new (TooShort count) = NeedsBuffer file certificate count old new
  EndsPlaying file certificate old new (Rejected r) = RejectsPlay valid file certificate width height r × (new ≡ old)
  EndsPlaying file certificate old new OutOfMemory = LacksMemory file certificate old new

-- the samples of the image that the file's run under rules makes from the start image
pub record HasSamples (rules : Rules) (file : List ℕ) (width height : ℕ) (start : Image) (samples : List ℕ) : Type 0 where
  pub image : Image
  pub run : Run rules file width height start (shown image)
  pub is_raster : samples ≡ raster image.colours

-- the same for the run of a cleared file
abbrev pub HasClearedSamples : Cleared → ℕ → ℕ → Image → List ℕ → Type 0
HasClearedSamples cleared width height start samples =
    (file : List ℕ) → IsOpenedFrom file cleared.opened → HasSamples cleared.opened.rules file width height start samples

-- these samples are at the start of the buffer; the rest of it is unchanged
pub record WritesSamples (width height : ℕ) (start : Image) (rules : Rules) (file old new : List ℕ) : Type 0 where
  pub samples : List ℕ
  pub of_run : HasSamples rules file width height start samples
  pub copied : IsCopied samples (sample_count width height) old new

-- how the call ends that plays a file on white into a buffer
abbrev pub EndsPlay : List ℕ → List ℕ → ℕ → ℕ → List ℕ → List ℕ → Outcome → Type 0
EndsPlay file certificate width height =
    EndsPlaying (is_bound width height) width height (sample_count width height) (WritesSamples width height (white width height)) file certificate

-- how the call ends that plays a file over the image whose samples are in the buffer
abbrev pub EndsOver : List ℕ → List ℕ → ℕ → ℕ → List ℕ → List ℕ → Outcome → Type 0
EndsOver file certificate width height =
    EndsPlaying (is_bound width height) width height (sample_count width height)
    (λ rules file old new. WritesSamples width height (image_at width height old) rules file old new)
    file certificate

-- How a call ends that plays a cleared file on a surface that its certificate is for, by how many bytes the buffer must
-- have and what it holds after a play.
module _ (needed : ℕ) (plays : Rules → List ℕ → List ℕ → List ℕ → Type 0) where
  abbrev pub EndsCleared : Cleared → List ℕ → List ℕ → Outcome → Type 0
  EndsCleared cleared old new (Done count) =
      (count ≡ needed) × (needed ≤ length old) × ((file : List ℕ) → IsOpenedFrom file cleared.opened → plays cleared.opened.rules file old new)
  EndsCleared cleared old new (TooShort count) = (count ≡ needed) × IsTooShort count old new
  EndsCleared cleared old new (Rejected r) = ⊥
  EndsCleared cleared old new OutOfMemory = new ≡ old

-- the same for each of the calls
abbrev pub EndsClearedPlay : Cleared → ℕ → ℕ → List ℕ → List ℕ → Outcome → Type 0
EndsClearedPlay cleared width height = EndsCleared (sample_count width height) (WritesSamples width height (white width height)) cleared

-- the image that the cleared file's run makes from the one in the buffer is in its place
abbrev pub WritesOver : Cleared → ℕ → ℕ → List ℕ → List ℕ → Type 0
WritesOver cleared width height old new =
    (file : List ℕ) → IsOpenedFrom file cleared.opened → WritesSamples width height (image_at width height old) cleared.opened.rules file old new

abbrev pub EndsClearedOver : Cleared → ℕ → ℕ → List ℕ → List ℕ → Outcome → Type 0
EndsClearedOver cleared width height =
    EndsCleared (sample_count width height) (λ rules file old new. WritesSamples width height (image_at width height old) rules file old new) cleared

-- a surface may have this size, and the rows are rows of it, at least one, that don't overlap in a buffer
abbrev pub are_placed : PlacedRows → Bool
are_placed rows =
    is_bound rows.surface.width rows.surface.height && nat_le 1 rows.layout.count && nat_le (rows.layout.first + rows.layout.count) rows.surface.height
    && nat_le (3 * rows.surface.width) rows.layout.stride

-- the rows of the image that the file's run under rules makes on white are in the buffer, and every other byte is
-- unchanged
pub record WritesRows (rows : PlacedRows) (rules : Rules) (file old new : List ℕ) : Type 0 where
  pub image : Image
  pub run : Run rules file rows.surface.width rows.surface.height (white rows.surface.width rows.surface.height) (shown image)
  pub copied : CopiesLayout image rows.layout rows.surface.width old new

-- how the call ends that plays some rows of a file on white into a buffer
abbrev pub EndsRows : List ℕ → List ℕ → PlacedRows → List ℕ → List ℕ → Outcome → Type 0
EndsRows file certificate rows =
    EndsPlaying (are_placed rows) rows.surface.width rows.surface.height (layout_size rows.layout rows.surface.width) (WritesRows rows) file certificate

-- the same for a cleared file
abbrev pub EndsClearedRows : Cleared → PlacedRows → List ℕ → List ℕ → Outcome → Type 0
EndsClearedRows cleared rows = EndsCleared (layout_size rows.layout rows.surface.width) (WritesRows rows) cleared

-- The file is cleared for a surface: the certificate is accepted for it, and it is for surfaces of this size. What is
-- cleared is read from the two.
pub record IsClearedFor (valid : Bool) (file certificate : List ℕ) (width height : ℕ) (cleared : Cleared) : Type 0 where
  pub is_valid : valid ≡ true
  pub accepts : IsAnswer file certificate accepted
  pub opened : IsOpenedFrom file cleared.opened
  pub read : read_certificate certificate ≡ Ok (certificate_of cleared.certificate)
  pub rules : cleared.opened.rules ≡ rules_in certificate
  pub within : IsWithinBound cleared.certificate width height

-- how a call ends for a file that isn't cleared for a surface
abbrev pub StopsPlaying : Bool → List ℕ → List ℕ → ℕ → ℕ → Outcome → Type 0
StopsPlaying valid file certificate width height (Done count) = ⊥
StopsPlaying valid file certificate width height (TooShort count) = ⊥
StopsPlaying valid file certificate width height (Rejected r) = RejectsPlay valid file certificate width height r
StopsPlaying valid file certificate width height OutOfMemory = (valid ≡ true) × OpensBoth file certificate
