-- What is played of a checked file, and why it isn't.
use Rattle.std.proofs.Common.{◌≡◌, ◌<◌, ◌≤◌, ◌⊎◌, ◌↔◌, ◌∙◌, inl, inr, ℕ, suc, List, Option, Some, None, Result, Ok, Err, ap, arith, subst, sym}
use Rattle.std.proofs.Math.Nat.{lt_of_not-le}
use Rattle.std.specs.Io.KnownBytes.{Keeps}
use Rattle.mapping.specs.Image.{Image}
use Rattle.canvas.specs.PpmReading.{read_ppm}
use Rattle.draw_ops.specs.declared.fault.Fault.{Fault}
use Rattle.draw_ops.specs.declared.fault.Fault.TheVariants.{BadImage, OutOfMemory, SurfaceTooLarge, WriteFault}
use Rattle.draw_ops.specs.RuleSets.{in_force}
use Rattle.draw_ops.specs.declared.rules.Rules.{Rules}
use Rattle.meta_headers.specs.File.{IsOpenedFrom}
use Rattle.meta_headers.specs.OpeningRules.{opened_by}
use Rattle.preflight_cert.specs.Answer.{IsAnswer, accepted, rejects}
use Rattle.preflight_cert.specs.CertificateOf.{certificate_of}
use Rattle.preflight_cert.specs.CertificateReading.{read_certificate, rules_in}
use Rattle.preflight_cert.specs.Refusal.{IsWantOfMemory}
use Rattle.preflight_cert.specs.Run.{Run, shown, white}
use Rattle.preflight_cert.specs.declared.certificate.Certificate.{Certificate}
use Rattle.preflight_cert.specs.declared.cleared.Cleared.{Cleared}
use Rattle.preflight_cert.specs.declared.refusal.Refusal.{Refusal}
use Rattle.player.specs.Bands.{IsRunText}
use Rattle.player.specs.Bounds.{IsAboveBound, IsWithinBound}
use Rattle.commands.specs.ClearedFiles.{FailsToPlay, Leaves, RejectsSurface, WritesPlayed}
use Rattle.commands.specs.Ends.{IsDoneBy, WritesDone, WritesText}
use Rattle.commands.specs.Failures.{Fails, IsFailureOf}
use Rattle.commands.specs.Images.{IsPlayed, IsPlayedOver, IsPlayedText, RejectsOver}
use Rattle.commands.specs.Tasks.{play, show}
use Rattle.commands.specs.declared.failure.Failure.{Failure}
use Rattle.commands.specs.declared.failure.Failure.TheVariants as why
use Rattle.commands.proofs.FailureLemmas.{kept, refusal_fails}

pub played : (file bytes : List ℕ) (cleared : Cleared) (width height : ℕ) (start image : Image) → IsAnswer file bytes accepted → IsOpenedFrom file cleared.opened
    → read_certificate bytes ≡ Ok (certificate_of cleared.certificate) → IsWithinBound cleared.certificate width height
    → cleared.opened.rules ≡ rules_in bytes → Leaves cleared width height start image → IsPlayed file bytes width height start image
played file bytes cleared width height start image accepts from read within rules leaves = record {
  accepted = accepts;
  allowed = record { value = certificate_of cleared.certificate; read = read; wide = within.wide; high = within.high };
  run = subst (λ (r : Rules). Run r file width height start (shown image)) rules (leaves file from);
}

-- what the check rejects isn't played
pub check_fails :
    (file bytes : List ℕ) (width height : ℕ) (r : Refusal) (failure : Failure) (held : Option (List ℕ))
    → (IsAnswer file bytes (rejects r.number r.fault) ⊎ IsWantOfMemory r) → IsFailureOf r failure → Fails (play file bytes width height) failure held held
check_fails file bytes width height r failure held (inl denies) by =
    refusal_fails (play file bytes width height) r failure held (inl (inl denies)) (kept held) by
check_fails file bytes width height r failure held (inr want) by = refusal_fails (play file bytes width height) r failure held (inr want) (kept held) by

module _ (file bytes : List ℕ) (cleared : Cleared) (width height : ℕ) (accepts : IsAnswer file bytes accepted) (from : IsOpenedFrom file cleared.opened)
    (read : read_certificate bytes ≡ Ok (certificate_of cleared.certificate)) (rules : cleared.opened.rules ≡ rules_in bytes) where
  -- the text of what a cleared file draws on white is the text of the play
  of_play : IsWithinBound cleared.certificate width height → (text : List ℕ) → IsRunText cleared.opened.rules file width height (white width height) text
      → IsPlayedText file bytes width height (white width height) text
  of_play within text run = record {
    image = run.image;
    played = record {
      accepted = accepts;
      allowed = record { value = certificate_of cleared.certificate; read = read; wide = within.wide; high = within.high };
      run = subst (λ (r : Rules). Run r file width height (white width height) (shown run.image)) rules run.run;
    };
    is_text = run.is_text;
  }

  pub play_done : (old new : Option (List ℕ)) → WritesPlayed cleared width height old new → WritesText (IsDoneBy (play file bytes width height)) old new
  play_done old new p = record { text = p.written.text; fact = of_play p.within p.written.text (p.written.of_run file from); written = p.written.appended }

  pub play_fails :
      {W : Type 0} → (contents : W → Option (List ℕ)) (old new : W) (failure : Failure) → FailsToPlay cleared width height contents old new failure
      → Fails (play file bytes width height) failure (contents old) (contents new)
  play_fails contents old new (why.Rejected r) p = (
    inr (record {
      accepted = accepts;
      excluded = record { value = certificate_of cleared.certificate; read = read; larger = p.above.larger };
      in_none = p.number;
      is_fault = p.above.is;
    }),
    p.kept,
  )
  play_fails contents old new why.CannotWrite p =
      record { text = p.written.text; fact = of_play p.within p.written.text (p.written.of_run file from); written = p.written.appended }
  play_fails contents old new why.OutOfMemory p = p

-- a surface can't both be within a bound and exceed it
never_both : (c : Certificate) (width height : ℕ) → IsWithinBound c width height → IsAboveBound width height c → ⊥
never_both c width height within (inl less) = let h = within.wide in absurd (omega (arith, less, h))
never_both c width height within (inr less) = let h = within.high in absurd (omega (arith, less, h))

-- the same for a file that was prepared at the surface's size under given rules, of which some are in force
module _ (rules : Rules) (file : List ℕ) (cleared : Cleared) (width height : ℕ) (from : IsOpenedFrom file cleared.opened)
    (is : cleared.opened.rules ≡ in_force rules) (again : opened_by (in_force rules) file ≡ opened_by rules file) where
  -- a run under the rules in force is one under the given rules
  of_show : (text : List ℕ) → IsRunText cleared.opened.rules file width height (white width height) text → IsRunText rules file width height (white width height) text
  of_show text run =
      let forced = subst (λ (r : Rules). Run r file width height (white width height) (shown run.image)) is run.run in
      record {
        image = run.image;
        run = record {
          headers = forced.headers;
          content = forced.content;
          of_file = record { opens = sym again ∙ forced.of_file.opens; records = forced.of_file.records };
          unstopped = forced.unstopped;
          shows = forced.shows;
        };
        is_text = run.is_text;
      }

  pub show_done : {W : Type 0} → (contents : W → Option (List ℕ)) (old new : W) → WritesPlayed cleared width height (contents old) (contents new)
      → WritesDone (show rules file width height) contents old new
  show_done contents old new p = record { text = p.written.text; fact = of_show p.written.text (p.written.of_run file from); written = p.written.appended }

  pub show_fails :
      {W : Type 0} → (contents : W → Option (List ℕ)) (old new : W) (failure : Failure) → IsWithinBound cleared.certificate width height
      → FailsToPlay cleared width height contents old new failure → Fails (show rules file width height) failure (contents old) (contents new)
  show_fails contents old new (why.Rejected r) within p = absurd (never_both cleared.certificate width height within p.above.larger)
  show_fails contents old new why.CannotWrite within p =
      record { text = p.written.text; fact = of_show p.written.text (p.written.of_run file from); written = p.written.appended }
  show_fails contents old new why.OutOfMemory within p = p

at_most : (a b : ℕ) → (a < b → ⊥) → b ≤ a
at_most a b never = let h : b < suc a = lt_of_not-le never in omega (arith, h)

module _ (c : Certificate) (width height : ℕ) (result : Result ℕ Fault) (bound : (result ≡ Err SurfaceTooLarge) ↔ IsAboveBound width height c) where
  -- a surface that isn't rejected for its size is within the bound
  pub within_bound : (result ≡ Err SurfaceTooLarge → ⊥) → IsWithinBound c width height
  within_bound never = record {
    wide = at_most c.max_width width (λ less. never (bound.1 (inl less)));
    high = at_most c.max_height height (λ less. never (bound.1 (inr less)));
  }

  pub within_where_done : (n : ℕ) → result ≡ Ok n → IsWithinBound c width height
  within_where_done n is = within_bound (λ large. cc)

  pub within_where_written : result ≡ Err WriteFault → IsWithinBound c width height
  within_where_written is = within_bound (λ large. cc)

-- a surface is rejected for its size, or because an allocation failed
pub surface_rejected : (c : Certificate) (width height : ℕ) (result : Result ℕ Fault) (fault : Fault) → result ≡ Err fault
    → ((result ≡ Err SurfaceTooLarge) ↔ IsAboveBound width height c) → (fault ≡ SurfaceTooLarge ⊎ fault ≡ OutOfMemory) → RejectsSurface c width height fault
surface_rejected c width height result fault is bound (inl large) = inl (record { larger = bound.0 (is ∙ ap (λ (f : Fault). Err f) large); is = large })
surface_rejected c width height result fault is bound (inr want) = inr want

-- unless the writer fails, a surface is rejected for its size, or because an allocation failed
pub fails_unwritten :
    {W : Type 0} → (cleared : Cleared) (width height : ℕ) (contents : W → Option (List ℕ)) (old new : W) (result : Result ℕ Fault) (fault : Fault)
    (r : Refusal) (failure : Failure) → result ≡ Err fault → ((result ≡ Err SurfaceTooLarge) ↔ IsAboveBound width height cleared.certificate)
    → (fault ≡ SurfaceTooLarge ⊎ (fault ≡ OutOfMemory ⊎ fault ≡ WriteFault)) → (fault ≡ WriteFault → ⊥) → Keeps (contents old) (contents new)
    → r.number ≡ None → r.fault ≡ fault → IsFailureOf r failure → FailsToPlay cleared width height contents old new failure
fails_unwritten cleared width height contents old new result fault r why.CannotWrite is bound by unwritten kept none same failed = absurd failed
fails_unwritten cleared width height contents old new result fault r why.OutOfMemory is bound by unwritten kept none same failed = kept
fails_unwritten cleared width height contents old new result fault r (why.Rejected other) is bound (inl large) unwritten kept none same failed = record {
  number = ap (λ (x : Refusal). x.number) failed.0 ∙ none;
  above = record {
    larger = bound.0 (is ∙ ap (λ (f : Fault). Err f) large);
    is = ap (λ (x : Refusal). x.fault) failed.0 ∙ same ∙ large;
  };
  kept = kept;
}
fails_unwritten cleared width height contents old new result fault r (why.Rejected other) is bound (inr (inl want)) unwritten kept none same failed =
    absurd (failed.1 (same ∙ want))
fails_unwritten cleared width height contents old new result fault r (why.Rejected other) is bound (inr (inr written)) unwritten kept none same failed =
    absurd (unwritten written)

pub over_check_rejects : (file bytes image : List ℕ) (r : Refusal) → (IsAnswer file bytes (rejects r.number r.fault) ⊎ IsWantOfMemory r)
    → (RejectsOver file bytes image r.number r.fault ⊎ IsWantOfMemory r)
over_check_rejects file bytes image r (inl denies) = inl (inl (inl denies))
over_check_rejects file bytes image r (inr want) = inr want

pub no_image_rejects : (file bytes image : List ℕ) (r : Refusal) → IsAnswer file bytes accepted → read_ppm image ≡ None
    → r.number ≡ None → r.fault ≡ BadImage → (RejectsOver file bytes image r.number r.fault ⊎ IsWantOfMemory r)
no_image_rejects file bytes image r accepts unread none is = inl (inl (inr (record { accepted = accepts; unread = unread; in_none = none; is_fault = is })))

pub over_surface_rejects : (file bytes image : List ℕ) (start : Image) (cleared : Cleared) (fault : Fault) (r : Refusal) → IsAnswer file bytes accepted
    → read_certificate bytes ≡ Ok (certificate_of cleared.certificate) → read_ppm image ≡ Some start
    → RejectsSurface cleared.certificate start.width start.height fault
    → r.number ≡ None → r.fault ≡ fault → (RejectsOver file bytes image r.number r.fault ⊎ IsWantOfMemory r)
over_surface_rejects file bytes image start cleared fault r accepts read shows (inl above) none is =
    inl (inr (record {
      start = start;
      read = shows;
      larger = record {
        accepted = accepts;
        excluded = record { value = certificate_of cleared.certificate; read = read; larger = above.larger };
        in_none = none;
        is_fault = rw is above.is;
      };
    }))
over_surface_rejects file bytes image start cleared fault r accepts read shows (inr want) none is = inr (record { number = none; fault = rw is want })

pub played_over : (file bytes image : List ℕ) (start after : Image) (cleared : Cleared) → IsAnswer file bytes accepted → IsOpenedFrom file cleared.opened
    → read_certificate bytes ≡ Ok (certificate_of cleared.certificate) → read_ppm image ≡ Some start
    → IsWithinBound cleared.certificate start.width start.height → cleared.opened.rules ≡ rules_in bytes
    → Leaves cleared start.width start.height start after → IsPlayedOver file bytes image after
played_over file bytes image start after cleared accepts from read shows within rules leaves = record {
  start = start;
  read = shows;
  played = played file bytes cleared start.width start.height start after accepts from read within rules leaves;
}
