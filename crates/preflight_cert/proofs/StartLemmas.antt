-- A machine at the start of a file.
use Rattle.std.proofs.Common.{◌≡◌}
use Rattle.mapping.specs.Surface.{Surface}
use Rattle.meta_headers.specs.Headers.{OpenedValue}
use Rattle.dc_stack.specs.MachineState.{MachineState}
use Rattle.dc_stack.specs.Needs.{no_needs}
use Rattle.dc_stack.specs.State.{start_of}

-- it stands at the file's start, on a surface, and nothing was needed yet
pub record IsAtStart (o : OpenedValue) (s : Surface) (m : MachineState) : Type 0 where
  pub state : m.state ≡ start_of o
  pub surface : m.surface ≡ s
  pub needs : m.needs ≡ no_needs
