-- Where a run stops, the record's line tells the fault.
use Rattle.std.proofs.Common.{◌≡◌, ◌⊎◌, inl, inr, ℕ, suc, ◌+◌, ◌==◌, Bool, true, List, [], ◌∷◌, ◌++◌, length, codes, Option, Some, None, Result, Ok, Err, arith, refl, subst, sym, ap, ◌∙◌}
use Rattle.std.specs.Option.{option_or}
use Rattle.std.proofs.lemmas.Bool.{eq-eqb}
use Rattle.mapping.specs.Nibs.{NibLaws}
use Rattle.mapping.specs.PlacingLaws.{IsNoLarger, ShowsFrame}
use Rattle.mapping.specs.Surface.{Surface}
use Rattle.draw_ops.specs.Content.{Content, StepValue, nothing_left}
use Rattle.draw_ops.specs.Framed.{FramedByFunction}
use Rattle.draw_ops.specs.Meaning.{DecodedValue, step_decoded, unnoted}
use Rattle.draw_ops.specs.RecordContent.{followed, steps_from}
use Rattle.draw_ops.specs.Operation.{no_effect}
use Rattle.draw_ops.specs.Records.{Record}
use Rattle.draw_ops.specs.Results.{result_map}
use Rattle.draw_ops.specs.declared.fault.Fault.TheVariants.{Record as InRecord}
use Rattle.draw_ops.specs.declared.record_fault.RecordFault.{RecordFault}
use Rattle.draw_ops.specs.declared.record_fault.RecordFault.TheVariants.{EmfPlusAlone, OffPlane}
use Rattle.draw_ops.specs.declared.rules.Rules.{Rules}
use Rattle.meta_headers.specs.Opening.{framing_of, meaning_of}
use Rattle.meta_headers.specs.declared.opened.FileFormat.{FileFormat}
use Rattle.dc_stack.specs.FaultLaws.{FaultLaws}
use Rattle.dc_stack.specs.Next.{next}
use Rattle.dc_stack.specs.OperationFault.{fault_of}
use Rattle.dc_stack.specs.State.{State}
use Rattle.preflight_cert.specs.EmfPlus.{emf_plus_of, is_emf_plus_alone}
use Rattle.preflight_cert.specs.Stop.{Stop, broken_after, emf_plus_stop, stop_at, stopped, stopped_or}
use Rattle.preflight_cert.specs.declared.emf_plus.EmfPlus.{EmfPlus}
use Rattle.listing.specs.FileRecords.{BreaksAt, HasRecord}
use Rattle.listing.specs.DryRunState.{DryRunState, PathLands, after_record, end_fault, fault_in_runs, fault_met, found_with, run_fault}
use Rattle.listing.specs.Line.{fault_line, head_of, line_of, decoded_text, rejected_text}
use Rattle.listing.specs.Listing.{last_line, lines_of}
use Rattle.listing.specs.ListingLaws.{ReportsFault, ReportsRejected, ReportsStop, rejected_line}
use Rattle.listing.proofs.EndLemmas.{end_meaning, end_step, found_at_end, is_alone, joined, joined_none, joined_then, none_met, told_at_end}
use Rattle.preflight_cert.proofs.CoreLemmas.{rules_kept}
use Rattle.listing.proofs.FileLemmas.{IsReached, end_reached, line_here, line_last, own_break, own_record, reached_next}
use Rattle.listing.proofs.DryRunStateLemmas.{OnLarger}
use Rattle.listing.proofs.PaintingLemmas.{met_on_larger}
use Rattle.listing.proofs.PathLemmas.{lands_after}
use Rattle.listing.proofs.PlainLines.{line_plain}

abbrev decoded_so : DecodedValue → Result DecodedValue RecordFault
decoded_so decoded = Ok decoded

-- of a stop its number and its fault
same_stop : {one other : Stop} → Some one ≡ Some other → one ≡ other
same_stop e = cc

pub same_number : {one other : ℕ} {fault here : RecordFault} → Some (stop_at one fault) ≡ Some (stop_at other here) → one ≡ other
same_number e = ap (λ (stop : Stop). stop.number) (same_stop e)

pub same_fault : {one other : ℕ} {fault here : RecordFault} → Some (stop_at one fault) ≡ Some (stop_at other here) → fault ≡ here
same_fault e = ap (λ (stop : Stop). stop.fault) (same_stop e)

same_decoded : {one other : DecodedValue} → decoded_so one ≡ decoded_so other → one ≡ other
same_decoded e = cc

module _ (laws : FaultLaws) (nibs : NibLaws) (by_function : FramedByFunction) (rules : Rules) (file : List ℕ) (format : FileFormat) (smallest s largest : Surface) (shows : ShowsFrame s) (shows_largest : ShowsFrame largest) (up : IsNoLarger smallest s) (down : IsNoLarger s largest) (total number : ℕ) (fault : RecordFault) (last : Option Stop) where
  -- what a record is judged by in a state
  abbrev dry_run_state_in : State → EmfPlus → DryRunState
  dry_run_state_in state found = record { state = state; found = found; smallest = smallest; largest = largest }

  -- a run on the surface stops so in a content, and this stops it behind the content's steps
  abbrev Stops : Content → State → Type 0
  Stops content state = stopped content.steps last state s ≡ Some (stop_at number fault)

  abbrev end_by : Rules → Content → EmfPlus → Option Stop
  end_by by content found = option_or (broken_after total content.fault) (emf_plus_stop by (is_emf_plus_alone by found) total)

  abbrev end_with : Content → State → EmfPlus → Option Stop
  end_with content state found = end_by state.rules content (joined found (emf_plus_of content.steps state))

  abbrev Ends : Content → State → EmfPlus → Type 0
  Ends content state found = last ≡ end_with content state found

  -- records or a fault are left
  abbrev HasMore : List Record → Option RecordFault → Type 0
  HasMore rs ending = rs ≡ [] → ending ≡ None → ⊥

  -- the record in front of others that are told so
  module _ (r : Record) (rs : List Record) (n place : ℕ) (after : List ℕ) (ending : Option RecordFault) where
    abbrev others : Content
    others = steps_from (framing_of format) (meaning_of format) after (suc n) rs ending

    abbrev is_last : Bool
    is_last = r.kind == (framing_of format).end_kind

    abbrev run_in : State → EmfPlus → StepValue → Option RecordFault
    run_in state found step = run_fault is_last (Some (dry_run_state_in state found)) step

    abbrev IsReachedBy : Option RecordFault → Result StepValue RecordFault → List ℕ → Type 0
    IsReachedBy run decoded rest = IsReached rules file format n place (r ∷ rs) ending (line_of format run n place r decoded ++ rest)

    abbrev left_by : Option DryRunState → Result StepValue RecordFault → List ℕ
    left_by dry_run_state decoded = lines_of format (after_record dry_run_state decoded) (suc n) (place + length r.bytes) after rs ending

    abbrev LaterReported : Type 0
    LaterReported =
        (state : State) (found : EmfPlus) → PathLands state.path s
        → IsReached rules file format (suc n) (place + length r.bytes) rs ending (lines_of format (Some (dry_run_state_in state found)) (suc n) (place + length r.bytes) after rs ending)
        → suc n + length others.steps ≡ total → Ends others state found → Stops others state → HasMore rs ending → ReportsStop rules file number fault

    -- the record is the last one, and ends the file; or more is left
    record IsLast : Type 0 where
      none : rs ≡ []
      whole : ending ≡ None
      ends : r.kind ≡ (framing_of format).end_kind

    -- the record is refused by a fault
    rejected_here : (run : Option RecordFault) (decoded : Result StepValue RecordFault) (rest : List ℕ) (e : RecordFault) → decoded_text run decoded ≡ rejected_text (InRecord e) → n ≡ number → IsReachedBy run decoded rest → ReportsRejected rules file number e
    rejected_here run decoded rest e reported same reached =
        let line = line_of format run n place r decoded in
        let is : line ≡ rejected_line format number place r e =
        ap (λ (text : List ℕ). head_of format n place r ++ text ++ codes "\n") reported ∙ ap (λ (m : ℕ). rejected_line format m place r e) same in
        record {
          format = format;
          place = place;
          r = r;
          its_own = subst (λ (m : ℕ). HasRecord file format m place r) same (own_record by_function reached);
          line = line_here line rest (rejected_line format number place r e) number reached same is;
        }

    -- by that of the run, or by being off the plane
    stopped_here : (state : State) (found : EmfPlus) (step : StepValue) (rest : List ℕ) → OnLarger fault (fault_met step.operation state largest) → n ≡ number → IsReachedBy (run_in state found step) (Ok step) rest → ReportsStop rules file number fault
    stopped_here state found step rest (inl there) same reached =
        inl (inl (rejected_here (run_in state found step) (Ok step) rest fault (rw there refl) same reached))
    stopped_here state found step rest (inr both) same reached =
        inr (record { too_wide = both.0; off = rejected_here (run_in state found step) (Ok step) rest OffPlane (rw both.1 refl) same reached })

    -- or has no fault on the surface, and is behind others then
    reported_later : (state : State) (found : EmfPlus) (step : StepValue) → PathLands state.path s → LaterReported → fault_of step.operation state s ≡ None → suc n + length others.steps ≡ total
        → Ends others (next step.operation state) (found_with found step state) → Stops others (next step.operation state) → HasMore rs ending
        → IsReachedBy (run_in state found step) (Ok step) (left_by (Some (dry_run_state_in state found)) (Ok step)) → ReportsStop rules file number fault
    reported_later state found step lands later none all ends stops more reached =
        let run = run_in state found step in
        let line = head_of format n place r ++ decoded_text run (Ok step) in
        let goes_on : fault_of step.operation state smallest ≡ None = laws.none_on_smaller step.operation state smallest s shows up none in
        let left = lines_of format (Some (dry_run_state_in (next step.operation state) (found_with found step state))) (suc n) (place + length r.bytes) after rs ending in
        later (next step.operation state) (found_with found step state) (lands_after s step.operation state lands none)
        (reached_next line left (line_plain format run n place r step) (rw goes_on at reached)) all ends stops more

    -- or is the end record of records that contain EMF+ and don't draw
    alone_here : (state : State) (found : EmfPlus) (rest : List ℕ) → IsLast → suc n + length others.steps ≡ total
        → Ends others (next (end_step is_last after n).operation state) (found_with found (end_step is_last after n) state)
        → Stops others (next (end_step is_last after n).operation state)
        → IsReachedBy (run_in state found (end_step is_last after n)) (Ok (end_step is_last after n)) rest → ReportsStop rules file number fault
    alone_here state found rest it all ends stops reached =
        let step = end_step is_last after n in
        let nothing : others ≡ nothing_left =
        ap (λ (qs : List Record). steps_from (framing_of format) (meaning_of format) after (suc n) qs ending) it.none
        ∙ ap (λ (f : Option RecordFault). steps_from (framing_of format) (meaning_of format) after (suc n) [] f) it.whole in
        let size = ap (λ (k : Content). length k.steps) nothing in
        let at : last ≡ Some (stop_at number fault) =
        ap (λ (k : Content). stopped k.steps last (next step.operation state) s) (sym nothing) ∙ stops in
        let by : end_with nothing_left (next step.operation state) (found_with found step state) ≡ Some (stop_at number fault) =
        ap (λ (k : Content). end_with k (next step.operation state) (found_with found step state)) (sym nothing) ∙ sym ends ∙ at in
        let same_found : joined (found_with found step state) (emf_plus_of [] (next step.operation state)) ≡ found =
        joined_none (found_with found step state) (next step.operation state) ∙ found_at_end found is_last after n state in
        let alone = is_alone state.rules found total number fault (ap (λ (f : EmfPlus). emf_plus_stop state.rules (is_emf_plus_alone state.rules f) total) (sym same_found) ∙ by) in
        let at_end = alone.last in
        let here : n ≡ number = omega (arith, all, size, at_end) in
        let ended : is_last ≡ true = eq-eqb _ _ it.ends in
        let told : run_in state found step ≡ Some EmfPlusAlone =
        ap (λ (met : Option RecordFault). option_or met (end_fault is_last state.rules found)) (none_met is_last after n state largest)
        ∙ told_at_end state.rules found is_last ended alone.alone in
        subst (λ (f : RecordFault). ReportsStop rules file number f) alone.same
        (inl (inl (rejected_here (run_in state found step) (Ok step) rest EmfPlusAlone (ap (λ (run : Option RecordFault). decoded_text run (Ok step)) told) here reached)))

    -- by the fault that the step has on the surface
    by_fault : (state : State) (found : EmfPlus) (step : StepValue) (met : Option RecordFault) → PathLands state.path s → LaterReported → fault_of step.operation state s ≡ met → suc n + length others.steps ≡ total
        → Ends others (next step.operation state) (found_with found step state)
        → stopped_or n met (stopped others.steps last (next step.operation state) s) ≡ Some (stop_at number fault)
        → (IsLast × (step ≡ end_step is_last after n)) ⊎ HasMore rs ending
        → IsReachedBy (run_in state found step) (Ok step) (left_by (Some (dry_run_state_in state found)) (Ok step)) → ReportsStop rules file number fault
    by_fault state found step None lands later is all ends stops (inr more) reached = reported_later state found step lands later is all ends stops more reached
    by_fault state found step None lands later is all ends stops (inl it) reached =
        subst
        (λ (it : StepValue). Ends others (next it.operation state) (found_with found it state) → Stops others (next it.operation state)
        → IsReachedBy (run_in state found it) (Ok it) (left_by (Some (dry_run_state_in state found)) (Ok it)) → ReportsStop rules file number fault)
        (sym it.1) (λ e p q. alone_here state found _ it.0 all e p q) ends stops reached
    by_fault state found step (Some e) lands later is all ends stops place_in reached =
        let here : fault_of step.operation state s ≡ Some fault = is ∙ ap Some (same_fault stops) in
        stopped_here state found step (left_by (Some (dry_run_state_in state found)) (Ok step)) (met_on_larger laws nibs step.operation state s largest shows_largest down lands fault here)
        (same_number stops) reached

    -- what a record means, as a step
    abbrev step_by : Result DecodedValue RecordFault → Result StepValue RecordFault
    step_by decoded = result_map (step_decoded is_last after n) decoded

    -- the step of the last record is that of the end record
    step_at_end : (decoded : DecodedValue) → meaning_of format n r ≡ Ok decoded → IsLast → step_decoded is_last after n decoded ≡ end_step is_last after n
    step_at_end decoded means it =
        let same : decoded ≡ unnoted no_effect = same_decoded (sym means ∙ end_meaning format n r it.ends) in
        ap (step_decoded is_last after n) same

    -- by what the record means
    by_meaning : (state : State) (found : EmfPlus) (decoded : Result DecodedValue RecordFault) → meaning_of format n r ≡ decoded → PathLands state.path s → LaterReported
        → n + length (followed (step_by decoded) others).steps ≡ total → Ends (followed (step_by decoded) others) state found → Stops (followed (step_by decoded) others) state
        → IsLast ⊎ HasMore rs ending
        → IsReachedBy (fault_in_runs is_last (Some (dry_run_state_in state found)) (step_by decoded)) (step_by decoded) (left_by (Some (dry_run_state_in state found)) (step_by decoded)) → ReportsStop rules file number fault
    by_meaning state found (Err e) means lands later all ends stops place_in reached =
        let at = sym ends ∙ stops in
        let same : n ≡ number = let last = same_number at in omega (arith, all, last) in
        inl (inl (rejected_here None (Err e) (lines_of format None (suc n) (place + length r.bytes) after rs ending) fault (ap (λ (f : RecordFault). rejected_text (InRecord f)) (same_fault at)) same reached))
    by_meaning state found (Ok decoded) means lands later all ends stops place_in reached =
        let step = step_decoded is_last after n decoded in
        let onward : Ends others (next step.operation state) (found_with found step state) =
        ends ∙ ap (λ (f : EmfPlus). end_by state.rules others f) (joined_then found step others.steps state)
        ∙ ap (λ (r : Rules). end_by r others (joined (found_with found step state) (emf_plus_of others.steps (next step.operation state)))) (sym (rules_kept step.operation state)) in
        by_fault state found step (fault_of step.operation state s) lands later refl (omega (arith, all)) onward stops
        (elim place_in [ inl it ↦ inl (it, step_at_end decoded means it) | inr more ↦ inr more ]) reached

  -- the last line
  reported_at_end : (n place : ℕ) (ending : Option RecordFault) (state : State) (found : EmfPlus) → n + 0 ≡ total → Ends (record { steps = []; fault = ending }) state found → last ≡ Some (stop_at number fault) → HasMore [] ending
      → IsReached rules file format n place [] ending (last_line n place ending) → ReportsFault rules file number fault
  reported_at_end n place None state found all ends stops more reached = absurd (more refl refl)
  reported_at_end n place (Some e) state found all ends stops more reached =
      let at = sym ends ∙ stops in
      let same : n ≡ number = let last = same_number at in omega (arith, all, last) in
      let is : fault_line n place e ≡ fault_line number place fault = ap (λ (m : ℕ). fault_line m place e) same ∙ ap (fault_line number place) (same_fault at) in
      inr (record {
        format = format;
        place = place;
        its_own =
            subst (λ (f : RecordFault). BreaksAt file format number place f) (same_fault at)
            (subst (λ (m : ℕ). BreaksAt file format m place e) same (own_break reached));
        line = line_last (fault_line n place e) (fault_line number place fault) number reached same is;
      })

  -- all records
  pub reported : (rs : List Record) (n place : ℕ) (after : List ℕ) (ending : Option RecordFault) (state : State) (found : EmfPlus) → PathLands state.path s
      → n + length (steps_from (framing_of format) (meaning_of format) after n rs ending).steps ≡ total
      → Ends (steps_from (framing_of format) (meaning_of format) after n rs ending) state found
      → Stops (steps_from (framing_of format) (meaning_of format) after n rs ending) state → HasMore rs ending
      → IsReached rules file format n place rs ending (lines_of format (Some (dry_run_state_in state found)) n place after rs ending) → ReportsStop rules file number fault
  reported [] n place after ending state found lands all ends stops more reached = inl (reported_at_end n place ending state found all ends stops more reached)
  reported (r ∷ rs) n place after ending state found lands all ends stops more reached =
      by_meaning r rs n place after ending state found (meaning_of format n r) refl lands
      (λ later found_later lands_later onward all_later ends_later stops_later more_later.
      reported rs (suc n) (place + length r.bytes) after ending later found_later lands_later all_later ends_later stops_later more_later onward) all ends stops
      (by_rest rs ending reached) reached
    where
      by_rest : (rs : List Record) (ending : Option RecordFault) {left : List ℕ} → IsReached rules file format n place (r ∷ rs) ending left → IsLast r rs n place after ending ⊎ HasMore rs ending
      by_rest [] None reached = inl (record { none = refl; whole = refl; ends = end_reached by_function reached })
      by_rest [] (Some e) reached = inr (λ none whole. cc)
      by_rest (q ∷ qs) ending reached = inr (λ none whole. cc)
