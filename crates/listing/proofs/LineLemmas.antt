-- The lines of records, one record after another.
use Rattle.std.proofs.Common.{◌≡◌, ℕ, suc, ◌+◌, List, [], ◌++◌, length, Option, Result, refl, sym, ap, ◌∙◌, arith}
use Rattle.std.proofs.lemmas.List.{append_assoc}
use Rattle.draw_ops.specs.Content.{StepValue}
use Rattle.draw_ops.specs.Framed.{ahead}
use Rattle.draw_ops.specs.Records.{Framed, Framing, Record}
use Rattle.draw_ops.specs.RecordOf.{record_of}
use Rattle.listing.specs.Walk.{GivesRecord}
use Rattle.listing.specs.WalkState.{Walk}
use Rattle.draw_ops.specs.declared.record_fault.RecordFault.{RecordFault}
use Rattle.listing.specs.declared.record_walk.PlacedRecord.{PlacedRecord}
use Rattle.meta_headers.specs.Opening.{framing_of}
use Rattle.meta_headers.specs.declared.opened.FileFormat.{FileFormat}
use Rattle.listing.specs.DryRunState.{DryRunState, after_record, fault_in_runs}
use Rattle.listing.specs.Line.{line_of}
use Rattle.listing.specs.Listing.{is_end, lines_of, lines_of_framed, step_in}
use Rattle.listing.specs.SameStep.{same_step_in}
use Rattle.listing.specs.Putting.{Coming, PutsLine, coming, listing_left}
use Rattle.canvas.specs.Sending.{Sending}
use Rattle.canvas.specs.Sending.{sending_none}

-- a walk at its start: nothing was sent, and all lines are left
pub begins : (known : Option (List ℕ)) (format : FileFormat) (dry_run_state : Option DryRunState) (framed : Framed) (place : ℕ) (buffer : List ℕ) (walk : Walk) → buffer ≡ [] → walk.number ≡ 0 → walk.place ≡ place → walk.framed ≡ framed → Sending known known (lines_of_framed format dry_run_state 0 place framed) (buffer ++ listing_left format (coming walk dry_run_state))
begins known format dry_run_state framed place buffer walk p n at f = rw (p, n, at, f) (sending_none known (lines_of_framed format dry_run_state 0 place framed))

module _ (format : FileFormat) (f : Framing) (is_of : framing_of format ≡ f) (old new : List ℕ) (before after : Coming) where
  -- the line of the record in front stands in front of the lines of the others
  ahead_of : (r : Record) (decoded : Result StepValue RecordFault) → before.walk.framed ≡ ahead r after.walk.framed → after.walk.number ≡ suc before.walk.number → after.walk.place ≡ before.walk.place + length r.bytes → decoded ≡ step_in format after.walk.framed.after before.walk.number r → after.dry_run_state ≡ after_record before.dry_run_state decoded → new ≡ old ++ line_of format (fault_in_runs (is_end format r) before.dry_run_state decoded) before.walk.number before.walk.place r decoded → old ++ listing_left format before ≡ new ++ listing_left format after
  ahead_of r decoded leading number place is judged put =
      let here = step_in format after.walk.framed.after before.walk.number r in
      rw (leading, number, place, put, judged, is)
      (sym (append_assoc old (line_of format (fault_in_runs (is_end format r) before.dry_run_state here) before.walk.number before.walk.place r here) (lines_of format (after_record before.dry_run_state here) (suc before.walk.number) (before.walk.place + length r.bytes) after.walk.framed.after after.walk.framed.records after.walk.framed.fault)))

  pub one_line : (given : PlacedRecord) (decoded : Result StepValue RecordFault) (run : Option RecordFault) → GivesRecord f before.walk given after.walk → step_in format given.after.now given.number (record_of given.record) ≡ decoded → run ≡ fault_in_runs (is_end format (record_of given.record)) before.dry_run_state decoded → after.dry_run_state ≡ after_record before.dry_run_state decoded → new ≡ old ++ line_of format run given.number given.place (record_of given.record) decoded → PutsLine format old before new after
  one_line given decoded run gives is found judged put =
      let r = record_of given.record in
      let ends : r.kind ≡ (framing_of format).end_kind → given.after.now ≡ after.walk.framed.after =
      λ last. gives.after_the_end (last ∙ ap (λ (g : Framing). g.end_kind) is_of) ∙ ap (λ (d : Framed). d.after) gives.leading in
      let here : decoded ≡ step_in format after.walk.framed.after before.walk.number r =
      sym is ∙ ap (λ (n : ℕ). step_in format given.after.now n r) gives.number ∙ same_step_in format given.after.now after.walk.framed.after before.walk.number r ends in
      let line : new ≡ old ++ line_of format (fault_in_runs (is_end format r) before.dry_run_state decoded) before.walk.number before.walk.place r decoded =
      rw (← found, ← gives.number, ← gives.place) put in
      record {
        put = ahead_of r decoded gives.leading gives.next_number gives.next_place here judged line;
        fewer = rw gives.leading (omega arith);
        end = rw gives.leading refl;
      }
