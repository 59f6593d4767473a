-- How checking a certificate against a file ends.
use Rattle.std.specs.Prelude.{◌≡◌, ℕ, List}
use Rattle.preflight_cert.specs.Answer.{IsAnswer, IsRejectedWith, accepted}
use Rattle.preflight_cert.specs.Reached.{OpensBoth}
use Rattle.buffer_calls.specs.declared.outcome.Outcome.{Outcome}
use Rattle.buffer_calls.specs.declared.outcome.Outcome.TheVariants.{Done, OutOfMemory, Rejected, TooShort}

-- the certificate is accepted for the file, and no byte was written
pub record IsAccepted (file certificate : List ℕ) (count : ℕ) : Type 0 where
  pub accepts : IsAnswer file certificate accepted
  pub nothing : count ≡ 0

-- How the call ends that checks a certificate against a file: by the answer, or because an allocation failed, after
-- both were read.
abbrev pub EndsCheck : List ℕ → List ℕ → Outcome → Type 0
EndsCheck file certificate (Done count) = IsAccepted file certificate count
EndsCheck file certificate (TooShort count) = ⊥
EndsCheck file certificate (Rejected r) = IsRejectedWith file certificate r
EndsCheck file certificate OutOfMemory = OpensBoth file certificate
