-- A run ends in one way.
use Rattle.std.proofs.Common.{◌≡◌, ℕ, List, Option, Some, None, Result, Ok, Err, refl, sym, ap, ◌∙◌}
use Rattle.draw_ops.specs.declared.fault.Fault.{Fault}
use Rattle.draw_ops.specs.declared.fault.Fault.TheVariants.{Record}
use Rattle.draw_ops.specs.declared.rules.Rules.{Rules}
use Rattle.draw_ops.specs.Content.{Content}
use Rattle.draw_ops.specs.ExactlyOne.{ExactlyOne}
use Rattle.mapping.specs.Image.{Image}
use Rattle.preflight_cert.specs.Apply.{image_after}
use Rattle.preflight_cert.specs.Drawings.{drawings_of}
use Rattle.meta_headers.specs.File.{FileIsOne, IsFile}
use Rattle.meta_headers.specs.Headers.{OpenedValue}
use Rattle.meta_headers.specs.Opening.{surface_for}
use Rattle.meta_headers.specs.OpeningRules.{opened_by}
use Rattle.dc_stack.specs.State.{start_of}
use Rattle.preflight_cert.specs.Stop.{Stop, stop_of}
use Rattle.preflight_cert.specs.Writes.{writes_after}
use Rattle.preflight_cert.specs.Run.{Outcome, shown, rejected, Run, RunEndsInOneWay, RejectedOverAnyImage, WritesAreOne}

-- opening answers one thing
pub opens_or_not : (answer : Result OpenedValue Fault) (headers : OpenedValue) (fault : Fault) → answer ≡ Ok headers → answer ≡ Err fault → ⊥
opens_or_not answer headers fault o e = cc

same_fault : (answer : Result OpenedValue Fault) (fault other : Fault) → answer ≡ Err fault → answer ≡ Err other → other ≡ fault
same_fault answer fault other e f = cc

-- no stop is two things
none_some : (stop : Option Stop) (at : Stop) → stop ≡ None → stop ≡ Some at → ⊥
none_some stop at n s = cc

same_stop : (stop : Option Stop) (at other : Stop) → stop ≡ Some at → stop ≡ Some other → at ≡ other
same_stop stop at other a o = cc

-- a file that doesn't open is refused by that fault alone
module _ (rules : Rules) (file : List ℕ) (width height : ℕ) (image : Image) (fault : Fault) (e : opened_by rules file ≡ Err fault) where
  only_opening : (other : Outcome) → Run rules file width height image other → other ≡ rejected None fault
  only_opening (shown after) h = absurd (opens_or_not (opened_by rules file) h.headers fault h.of_file.opens e)
  only_opening (rejected None f) h = ap (rejected None) (same_fault (opened_by rules file) fault f e h)
  only_opening (rejected (Some number) f) h = absurd (opens_or_not (opened_by rules file) h.headers fault h.of_file.opens e)

  by_fault : ExactlyOne (Run rules file width height image)
  by_fault = record { value = rejected None fault; holds = e; only = λ other h. only_opening other h }

-- how the records of an opened file stop, what they show, and how many pixels they write
abbrev stop : ℕ → ℕ → OpenedValue × Content → Option Stop
stop width height it = stop_of it.1 (start_of it.0) (surface_for it.0 width height)

abbrev shows : ℕ → ℕ → Image → OpenedValue × Content → Image
shows width height image it = image_after (drawings_of it.1.steps (start_of it.0)) (surface_for it.0 width height) image

abbrev count : ℕ → ℕ → OpenedValue × Content → ℕ
count width height it = writes_after (drawings_of it.1.steps (start_of it.0)) (surface_for it.0 width height)

-- where the one content of a file stops is where the run does
module _ (one : FileIsOne) (rules : Rules) (file : List ℕ) (width height : ℕ) (image : Image) (headers : OpenedValue) (e : opened_by rules file ≡ Ok headers) where
  abbrev the_one : ExactlyOne (λ (it : OpenedValue × Content). IsFile rules file it.0 it.1)
  the_one = one rules file headers e

  only_shown : (other : Outcome) → stop width height the_one.value ≡ None → Run rules file width height image other → other ≡ shown (shows width height image the_one.value)
  only_shown (shown after) n h = ap shown (h.shows ∙ ap (shows width height image) (the_one.only (h.headers, h.content) h.of_file))
  only_shown (rejected None f) n h = absurd (opens_or_not (opened_by rules file) headers f e h)
  only_shown (rejected (Some number) f) n h =
      absurd (none_some _ _ n (sym (ap (stop width height) (the_one.only (h.headers, h.content) h.of_file)) ∙ h.stops))

  only_stopped : (other : Outcome) (at : Stop) → stop width height the_one.value ≡ Some at → Run rules file width height image other → other ≡ rejected (Some at.number) (Record at.fault)
  only_stopped (shown after) at s h =
      absurd (none_some _ _ (sym (ap (stop width height) (the_one.only (h.headers, h.content) h.of_file)) ∙ h.unstopped) s)
  only_stopped (rejected None f) at s h = absurd (opens_or_not (opened_by rules file) headers f e h)
  only_stopped (rejected (Some number) f) at s h =
      let there = same_stop _ _ _ (sym (ap (stop width height) (the_one.only (h.headers, h.content) h.of_file)) ∙ h.stops) s in
      rw h.in_record (ap (λ (t : Stop). rejected (Some t.number) (Record t.fault)) there)

  by_stop : (stops : Option Stop) → stop width height the_one.value ≡ stops → ExactlyOne (Run rules file width height image)
  by_stop None n = record {
    value = shown (shows width height image the_one.value);
    holds = record { headers = the_one.value.0; content = the_one.value.1; of_file = the_one.holds; unstopped = n; shows = refl };
    only = λ other h. only_shown other n h;
  }
  by_stop (Some at) s = record {
    value = rejected (Some at.number) (Record at.fault);
    holds = record { headers = the_one.value.0; content = the_one.value.1; of_file = the_one.holds; here = at.fault; in_record = refl; stops = s };
    only = λ other h. only_stopped other at s h;
  }

by_opening : FileIsOne → (rules : Rules) (file : List ℕ) (width height : ℕ) (image : Image) (answer : Result OpenedValue Fault) → opened_by rules file ≡ answer → ExactlyOne (Run rules file width height image)
by_opening one rules file width height image (Err fault) e = by_fault rules file width height image fault e
by_opening one rules file width height image (Ok headers) e = by_stop one rules file width height image headers e _ refl

pub run_ends : FileIsOne → RunEndsInOneWay
run_ends one rules file width height image = by_opening one rules file width height image (opened_by rules file) refl

-- a refusal doesn't depend on the image
pub rejected_over_any : RejectedOverAnyImage
rejected_over_any rules file width height image other number fault h = h

pub writes_are_one : FileIsOne → WritesAreOne
writes_are_one one rules file width height image after h =
    let the_one = one rules file h.headers h.of_file.opens in
    record {
      value = count width height (h.headers, h.content);
      holds = record { headers = h.headers; content = h.content; of_file = h.of_file; unstopped = h.unstopped; count = refl };
      only = λ other k. k.count
          ∙ ap (count width height) (the_one.only (k.headers, k.content) k.of_file ∙ sym (the_one.only (h.headers, h.content) h.of_file));
    }
