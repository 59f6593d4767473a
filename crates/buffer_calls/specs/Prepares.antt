-- How preparing a certificate in a buffer ends.
use Rattle.std.specs.Prelude.{◌≡◌, ℕ, List}
use Rattle.draw_ops.specs.declared.rules.Rules.{Rules}
use Rattle.preflight_cert.specs.Answer.{IsAnswer, accepted}
use Rattle.preflight_cert.specs.Preparation.{Prepares, StopsPreparing}
use Rattle.preflight_cert.specs.Reached.{OpensAt}
use Rattle.buffer_calls.specs.Texts.{NeedsText, WritesText}
use Rattle.buffer_calls.specs.declared.outcome.Outcome.{Outcome}
use Rattle.buffer_calls.specs.declared.outcome.Outcome.TheVariants.{Done, OutOfMemory, Rejected, TooShort}

-- the bytes are the certificate that is prepared for a file under rules at a bound, and it is accepted
pub record IsCertificateFor (rules : Rules) (file : List ℕ) (width height : ℕ) (bytes : List ℕ) : Type 0 where
  pub prepared : Prepares rules file width height bytes
  pub accepts : IsAnswer file bytes accepted

-- How the call ends that prepares a certificate in a buffer: it was copied there, or is too long; or the bound or the
-- file is rejected; or an allocation failed, after the file was opened. Only a call that is done changes the buffer.
abbrev pub EndsPrepare : Rules → List ℕ → ℕ → ℕ → List ℕ → List ℕ → Outcome → Type 0
EndsPrepare rules file width height old new (Done count) = WritesText (IsCertificateFor rules file width height) count old new
EndsPrepare rules file width height old new (TooShort count) = NeedsText (IsCertificateFor rules file width height) count old new
EndsPrepare rules file width height old new (Rejected r) = StopsPreparing rules file width height r × (new ≡ old)
EndsPrepare rules file width height old new OutOfMemory = OpensAt file width height × (new ≡ old)
