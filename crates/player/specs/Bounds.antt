-- Surfaces within a certificate's bound and larger ones, and the faults that follow.
use Rattle.std.specs.Prelude.{◌≡◌, ◌≤◌, ◌<◌, ◌⊎◌, ◌↔◌, ℕ, Result, Err}
use Rattle.draw_ops.specs.declared.fault.Fault.{Fault}
use Rattle.draw_ops.specs.declared.fault.Fault.TheVariants.{OutOfMemory, SurfaceTooLarge, WriteFault}
use Rattle.preflight_cert.specs.declared.certificate.Certificate.{Certificate}

-- the width and the height are within the certificate's bound
pub record IsWithinBound (c : Certificate) (width height : ℕ) : Type 0 where
  pub wide : width ≤ c.max_width
  pub high : height ≤ c.max_height

-- the width or the height exceeds the certificate's bound
abbrev pub IsAboveBound : ℕ → ℕ → Certificate → Type 0
IsAboveBound width height c = c.max_width < width ⊎ c.max_height < height

-- the result is `SurfaceTooLarge` exactly if the surface exceeds the certificate's bound
abbrev pub ReportsTooLarge : {A : Type 0} → Result A Fault → ℕ → ℕ → Certificate → Type 0
ReportsTooLarge result width height c = (result ≡ Err SurfaceTooLarge) ↔ IsAboveBound width height c

-- a reason not to play a cleared file: the surface exceeds the bound, or an allocation failed
abbrev pub IsPlayFault : Fault → Type 0
IsPlayFault fault = fault ≡ SurfaceTooLarge ⊎ fault ≡ OutOfMemory

-- a reason not to write a cleared file's image: the surface exceeds the bound, an allocation failed, or the writer
-- failed
abbrev pub IsBandFault : Fault → Type 0
IsBandFault fault = fault ≡ SurfaceTooLarge ⊎ (fault ≡ OutOfMemory ⊎ fault ≡ WriteFault)
