-- How playing a cleared file ends is how playing the file by its certificate ends.
use Rattle.std.proofs.Common.{◌≡◌, ℕ, Bool, List, Result, Ok, Err, IsOk, refl, subst}
use Rattle.draw_ops.specs.Results.{result_map}
use Rattle.draw_ops.specs.declared.fault.Fault.{Fault}
use Rattle.draw_ops.specs.declared.rules.Rules.{Rules}
use Rattle.meta_headers.specs.Headers.{OpenedValue}
use Rattle.meta_headers.specs.OpenedOf.{opened_of}
use Rattle.meta_headers.specs.Opening.{opened}
use Rattle.meta_headers.specs.OpeningRules.{reopened}
use Rattle.preflight_cert.specs.CertificateOf.{certificate_of}
use Rattle.preflight_cert.specs.CertificateReading.{CertificateValue}
use Rattle.preflight_cert.specs.Reached.{OpensBoth}
use Rattle.preflight_cert.specs.declared.cleared.Cleared.{Cleared}
use Rattle.buffer_calls.specs.Plays.{EndsCleared, EndsPlaying, IsClearedFor, IsPlayable, StopsPlaying}
use Rattle.buffer_calls.specs.declared.outcome.Outcome.{Outcome}
use Rattle.buffer_calls.specs.declared.outcome.Outcome.TheVariants.{Done, OutOfMemory, Rejected, TooShort}

opens_first : (rules : Rules) (r : Result OpenedValue Fault) (o : OpenedValue) → result_map (reopened rules) r ≡ Ok o → IsOk r
opens_first rules (Ok it) o e = refl
opens_first rules (Err fault) o e = cc

reads_first : (r : Result CertificateValue Fault) (c : CertificateValue) → r ≡ Ok c → IsOk r
reads_first (Ok it) c e = refl
reads_first (Err fault) c e = cc

module _ (valid : Bool) (file bytes : List ℕ) (width height needed : ℕ) (plays : Rules → List ℕ → List ℕ → List ℕ → Type 0) where
  module _ (cleared : Cleared) (is : IsClearedFor valid file bytes width height cleared) where
    playable : IsPlayable file bytes width height
    playable = record { accepts = is.accepts; value = certificate_of cleared.certificate; read = is.read; wide = is.within.wide; high = is.within.high }

    opens : OpensBoth file bytes
    opens = record {
      opens = opens_first cleared.opened.rules (opened file) (opened_of cleared.opened) is.opened.opens;
      reads = reads_first _ (certificate_of cleared.certificate) is.read;
    }

    -- a call on a cleared file ends as the call on the file and its certificate
    pub ends_cleared : (old new : List ℕ) (outcome : Outcome) → EndsCleared needed plays cleared old new outcome → EndsPlaying valid width height needed plays file bytes old new outcome
    ends_cleared old new (Done count) h = record {
      is_valid = is.is_valid;
      playable = playable;
      counted = h.0;
      capacity = h.1;
      played = subst (λ (r : Rules). plays r file old new) is.rules (h.2 file is.opened);
    }
    ends_cleared old new (TooShort count) h = record { is_valid = is.is_valid; playable = playable; counted = h.0; short = h.1 }
    ends_cleared old new (Rejected r) h = absurd h
    ends_cleared old new OutOfMemory h = record { is_valid = is.is_valid; opens = opens; kept = h }

  -- a call on a file that isn't cleared ends at once, and changes nothing
  pub ends_stopped : (old : List ℕ) (outcome : Outcome) → StopsPlaying valid file bytes width height outcome → EndsPlaying valid width height needed plays file bytes old old outcome
  ends_stopped old (Done count) h = absurd h
  ends_stopped old (TooShort count) h = absurd h
  ends_stopped old (Rejected r) h = (h, refl)
  ends_stopped old OutOfMemory h = record { is_valid = h.0; opens = h.1; kept = refl }
