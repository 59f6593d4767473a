-- When a machine is ready to play a cleared file.
use Rattle.std.specs.Prelude.{◌≡◌, ◌≤◌, ◌⊎◌, ℕ}
use Rattle.mapping.specs.PlacingLaws.{IsNoLarger}
use Rattle.mapping.specs.Surface.{Surface}
use Rattle.meta_headers.specs.OpenedOf.{opened_of}
use Rattle.meta_headers.specs.Opening.{surface_for}
use Rattle.dc_stack.specs.Drawing.{edge_limit}
use Rattle.dc_stack.specs.MachineState.{MachineState}
use Rattle.dc_stack.specs.Needs.{no_needs}
use Rattle.dc_stack.specs.State.{start_of}
use Rattle.preflight_cert.specs.Answer.{bound_of}
use Rattle.preflight_cert.specs.CertificateOf.{certificate_of}
use Rattle.preflight_cert.specs.NeedLaws.{HasCapacityFor}
use Rattle.preflight_cert.specs.declared.cleared.Cleared.{Cleared}

-- the surface of this size that shows the file
abbrev pub surface_of_file : Cleared → ℕ → ℕ → Surface
surface_of_file cleared width height = surface_for (opened_of cleared.opened) width height

-- A machine has a surface within the certificate's bound, and it and a row buffer for this number of lines have the
-- memory that the certificate needs.
pub record IsReadyToPlay (cleared : Cleared) (count : ℕ) (m : MachineState) : Type 0 where
  pub kind : m.state.table_kind ≡ (start_of (opened_of cleared.opened)).table_kind
  pub within : IsNoLarger m.surface (bound_of (opened_of cleared.opened) (certificate_of cleared.certificate))
  pub capacity : HasCapacityFor cleared.certificate.needs m
  pub lines : edge_limit ≤ count ⊎ cleared.certificate.needs.edges ≤ count

-- the machine is at the file's start
pub record IsAtStart (cleared : Cleared) (m : MachineState) : Type 0 where
  pub state : m.state ≡ start_of (opened_of cleared.opened)
  pub needs : m.needs ≡ no_needs
