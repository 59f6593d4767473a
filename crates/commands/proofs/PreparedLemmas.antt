-- A surface of the size that a certificate was prepared for, and why a file isn't prepared.
use Rattle.std.proofs.Common.{◌≡◌, ◌⊎◌, inl, inr, Bool, true, false, ℕ, List, Result, Ok, Err, IsOk, ap, arith, refl, subst}
use Rattle.std.proofs.lemmas.Bool.{and_from, true≢false}
use Rattle.mapping.specs.Limits.{IsSurfaceSide, is_surface_side, surface_side_from}
use Rattle.draw_ops.specs.Results.{result_map}
use Rattle.draw_ops.specs.declared.fault.Fault.{Fault}
use Rattle.draw_ops.specs.declared.rules.Rules.{Rules}
use Rattle.meta_headers.specs.Headers.{OpenedValue}
use Rattle.meta_headers.specs.Opening.{opened, record_bytes}
use Rattle.meta_headers.specs.OpeningRules.{reopened}
use Rattle.preflight_cert.specs.Answer.{Answer, AnswersOpened, AnswersRead, IsAnswer, accepted, rejects}
use Rattle.preflight_cert.specs.CertificateReading.{CertificateValue, read_certificate, rules_in}
use Rattle.preflight_cert.specs.CertificateOf.{certificate_of}
use Rattle.preflight_cert.specs.Refusal.{IsWantOfMemory}
use Rattle.preflight_cert.specs.Preparation.{HasBound, RejectsWithin, StopsPreparing, is_bound}
use Rattle.preflight_cert.specs.Reached.{OpensBoth}
use Rattle.preflight_cert.specs.Run.{Rejected}
use Rattle.preflight_cert.specs.declared.certificate.Certificate.{Certificate}
use Rattle.preflight_cert.specs.declared.refusal.Refusal.{Refusal}
use Rattle.player.specs.Bounds.{IsWithinBound}

-- an accepting answer
is_accepted : Answer → Bool
is_accepted accepted = true
is_accepted (rejects number fault) = false

-- a surface of the size that a certificate was prepared for doesn't exceed its bound
pub prepared_within : (width height : ℕ) (c : Certificate) → HasBound width height (certificate_of c) → IsWithinBound c width height
prepared_within width height c has =
    let wide : c.max_width ≡ width = has.wide in
    let high : c.max_height ≡ height = has.high in
    record { wide = omega (arith, wide); high = omega (arith, high) }

-- for a valid size, the rejection is that of the run
pub run_rejected : (rules : Rules) (file : List ℕ) (width height : ℕ) → IsSurfaceSide width → IsSurfaceSide height → (r : Refusal)
    → (StopsPreparing rules file width height r ⊎ IsWantOfMemory r) → (Rejected rules file width height r.number r.fault ⊎ IsWantOfMemory r)
run_rejected rules file width height wide high r (inr want) = inr want
run_rejected rules file width height wide high r (inl stops) =
    let bound : is_bound width height ≡ true = and_from (is_surface_side width) (is_surface_side height) (surface_side_from width wide) (surface_side_from height high) in
    inl (subst (λ (allowed : Bool). RejectsWithin allowed rules file width height r.number r.fault) bound stops)

-- an accepted file opens, and its certificate can be read
read_of_answer : (read : Result CertificateValue Fault) (o : OpenedValue) (records : List ℕ) → AnswersRead read o records accepted → IsOk read
unfolding is_accepted
read_of_answer (Ok c) o records accepts = refl
read_of_answer (Err fault) o records accepts = absurd (true≢false (ap is_accepted accepts))

both_of_answer : (rules : Rules) (file certificate : List ℕ) (r : Result OpenedValue Fault) → AnswersOpened (result_map (reopened rules) r) file certificate accepted
    → IsOk r × IsOk (read_certificate certificate)
unfolding is_accepted
both_of_answer rules file certificate (Ok o) accepts = (refl, read_of_answer (read_certificate certificate) (reopened rules o) (record_bytes o.format file) accepts)
both_of_answer rules file certificate (Err fault) accepts = absurd (true≢false (ap is_accepted accepts))

pub accepted_opens : (file certificate : List ℕ) → IsAnswer file certificate accepted → OpensBoth file certificate
accepted_opens file certificate accepts =
    let both = both_of_answer (rules_in certificate) file certificate (opened file) accepts in record { opens = both.0; reads = both.1 }
