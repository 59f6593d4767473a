-- Reports of accepted files, and what is played of them.
use Rattle.std.specs.Prelude.{◌≡◌, ◌⊎◌, ℕ, List, length, Option, None}
use Rattle.std.specs.Io.KnownBytes.{Keeps}
use Rattle.serde_json.specs.Data.{Members}
use Rattle.draw_ops.specs.declared.fault.Fault.{Fault}
use Rattle.draw_ops.specs.declared.fault.Fault.TheVariants.{OutOfMemory, SurfaceTooLarge}
use Rattle.mapping.specs.Colours.{white_colour}
use Rattle.mapping.specs.Image.{Image}
use Rattle.meta_headers.specs.File.{IsOpenedFrom}
use Rattle.meta_headers.specs.OpenedOf.{opened_of}
use Rattle.preflight_cert.specs.CertificateOf.{certificate_of}
use Rattle.preflight_cert.specs.EntriesOf.{entries_of}
use Rattle.preflight_cert.specs.Run.{Run, shown}
use Rattle.preflight_cert.specs.declared.certificate.Certificate.{Certificate}
use Rattle.preflight_cert.specs.declared.cleared.Cleared.{Cleared}
use Rattle.preflight_cert.specs.declared.refusal.Refusal.{Refusal}
use Rattle.player.specs.Bands.{WritesRun, WritesRunPrefix}
use Rattle.player.specs.Bounds.{IsAboveBound, IsWithinBound}
use Rattle.commands.specs.CheckReport.{accepted_members}
use Rattle.commands.specs.declared.failure.Failure.{Failure}
use Rattle.commands.specs.declared.failure.Failure.TheVariants as why

-- the members of the report for a file and certificate that were accepted
abbrev pub members_of : Cleared → Members
members_of cleared =
    accepted_members (opened_of cleared.opened) (certificate_of cleared.certificate) cleared.records
    (length (entries_of cleared.certificate.entries)) cleared.notes.counts cleared.uses

-- the run of the opened file, at this size, makes the image from the start image
abbrev pub Leaves : Cleared → ℕ → ℕ → Image → Image → Type 0
Leaves cleared width height start image = (file : List ℕ) → IsOpenedFrom file cleared.opened → Run cleared.opened.rules file width height start (shown image)

-- the surface exceeds the certificate's bound, and the fault says so
pub record IsFaultAboveBound (c : Certificate) (width height : ℕ) (fault : Fault) : Type 0 where
  pub larger : IsAboveBound width height c
  pub is : fault ≡ SurfaceTooLarge

-- the surface is within the bound, and the text of the image that the run makes on white was written
pub record WritesPlayed (cleared : Cleared) (width height : ℕ) (old new : Option (List ℕ)) : Type 0 where
  pub within : IsWithinBound cleared.certificate width height
  pub written : WritesRun cleared width height white_colour old new

-- the surface is within the bound, and a prefix of the text of that image was written
pub record WritesPlayedPrefix (cleared : Cleared) (width height : ℕ) (old new : Option (List ℕ)) : Type 0 where
  pub within : IsWithinBound cleared.certificate width height
  pub written : WritesRunPrefix cleared width height white_colour old new

-- the surface exceeds the bound, and nothing was written
pub record RejectsToPlay (cleared : Cleared) (width height : ℕ) (r : Refusal) (old new : Option (List ℕ)) : Type 0 where
  pub number : r.number ≡ None
  pub above : IsFaultAboveBound cleared.certificate width height r.fault
  pub kept : Keeps old new

module _ {W : Type 0} where
  -- a cleared file was played on white, and its text was written to a writer with these contents
  abbrev pub PlaysTo : Cleared → ℕ → ℕ → (W → Option (List ℕ)) → W → W → Type 0
  PlaysTo cleared width height contents old new = WritesPlayed cleared width height (contents old) (contents new)

  -- why a cleared file wasn't played, and what was written then
  abbrev pub FailsToPlay : Cleared → ℕ → ℕ → (W → Option (List ℕ)) → W → W → Failure → Type 0
  FailsToPlay cleared width height contents old new (why.Rejected r) = RejectsToPlay cleared width height r (contents old) (contents new)
  FailsToPlay cleared width height contents old new why.CannotWrite = WritesPlayedPrefix cleared width height (contents old) (contents new)
  FailsToPlay cleared width height contents old new why.OutOfMemory = Keeps (contents old) (contents new)

-- the fault by which a surface is rejected
abbrev pub RejectsSurface : Certificate → ℕ → ℕ → Fault → Type 0
RejectsSurface c width height fault = IsFaultAboveBound c width height fault ⊎ fault ≡ OutOfMemory
