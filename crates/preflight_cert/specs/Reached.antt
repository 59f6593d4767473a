-- What must succeed before memory is allocated.
use Rattle.std.specs.Prelude.{◌≡◌, ℕ, true, List, IsOk}
use Rattle.meta_headers.specs.Opening.{opened}
use Rattle.preflight_cert.specs.CertificateReading.{read_certificate}
use Rattle.preflight_cert.specs.Preparation.{is_bound}

-- the file opens: its headers have no fault
abbrev pub Opens : List ℕ → Type 0
Opens file = IsOk (opened file)

-- the file opens, and the certificate can be read
pub record OpensBoth (file certificate : List ℕ) : Type 0 where
  pub opens : Opens file
  pub reads : IsOk (read_certificate certificate)

-- a surface may have this size, and the file opens
pub record OpensAt (file : List ℕ) (width height : ℕ) : Type 0 where
  pub bound : is_bound width height ≡ true
  pub opens : Opens file
