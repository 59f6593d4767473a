-- What was counted up to a record, and what is counted after it.
use Rattle.std.proofs.Common.{◌≡◌, ◌≤◌, ◌<◌, ℕ, suc, List, [], ◌∷◌, length, Option, Some, None, Result, sym, ap, subst, ◌∙◌, arith}
use Rattle.std.proofs.lemmas.List.{length-append}
use Rattle.draw_ops.specs.Content.{StepValue}
use Rattle.draw_ops.specs.Framed.{ahead}
use Rattle.draw_ops.specs.RecordOf.{record_of}
use Rattle.draw_ops.specs.Records.{Framed, Framing, record_limit}
use Rattle.draw_ops.specs.declared.fault.Fault.{Fault}
use Rattle.draw_ops.specs.declared.fault.Fault.TheVariants.{Record}
use Rattle.draw_ops.specs.declared.record_fault.RecordFault.{RecordFault}
use Rattle.listing.specs.DryRunState.{after_record, fault_in_runs}
use Rattle.listing.specs.Listing.{is_end, step_in}
use Rattle.listing.specs.Walk.{GivesFault, GivesNoRecord, GivesRecord}
use Rattle.listing.specs.declared.record_walk.PlacedRecord.{PlacedRecord}
use Rattle.listing.specs.SameStep.{same_step_in}
use Rattle.meta_headers.specs.Opening.{framing_of}
use Rattle.meta_headers.specs.declared.opened.FileFormat.{FileFormat}
use Rattle.file_info.specs.Counting.{AddsRecord, Counted, CountsIfAny, CountsRecord, HasTotals, Leads}
use Rattle.file_info.specs.FaultCounts.{CountsFaults, CountsOneMore, fault_limit}
use Rattle.file_info.specs.Totals.{TotalsValue, found_fault, totals_after, totals_after_framed, with_break, with_fault, with_record}
use Rattle.file_info.specs.declared.fault_count.FaultCount.{FaultCount}
use Rattle.file_info.specs.declared.totals.Totals.{Totals}

-- fewer faults than the limit
few_enough : (number many : ℕ) → number ≤ record_limit → many ≤ suc number → many < fault_limit
unfolding record_limit
few_enough number many within few = omega (arith, within, few)

-- at most one more fault
one_more : (faults : List Fault) (fault : Option RecordFault) → length (with_fault faults fault) ≤ suc (length faults)
one_more faults None = omega arith
one_more faults (Some fault) = let e = length-append faults (Record fault ∷ []) in omega (arith, e)

-- the counts of faults, after those of one more fault if there is one
after_any : (faults : List Fault) (old new : List (ℕ × FaultCount)) (found : Option RecordFault) → length faults < fault_limit → CountsFaults faults old → CountsIfAny old found new → CountsFaults (with_fault faults found) new
after_any faults old new None few counts same = subst (CountsFaults faults) (sym same) counts
after_any faults old new (Some fault) few counts adds = adds faults few counts

module _ (format : FileFormat) (f : Framing) (is_of : framing_of format ≡ f) (old new : Counted) where
  -- a record was counted
  pub one_record : (given : PlacedRecord) (decoded : Result StepValue RecordFault) (run : Option RecordFault) (before : Totals) → GivesRecord f old.walk given new.walk → step_in format given.after.now given.number (record_of given.record) ≡ decoded → run ≡ fault_in_runs (is_end format (record_of given.record)) old.state decoded → new.state ≡ after_record old.state decoded → new.walk.number ≤ record_limit → before.records ≡ new.walk.number → before.notes ≡ old.totals.notes → before.faults ≡ old.totals.faults → AddsRecord before decoded run new.totals → CountsRecord format old new
  one_record given decoded run before gives is found judged within records notes counted adds =
      let r = record_of given.record in
      record {
        fewer = rw gives.leading (omega arith);
        leads = λ total leads.
            let ends : r.kind ≡ (framing_of format).end_kind → given.after.now ≡ new.walk.framed.after =
            λ last. gives.after_the_end (last ∙ ap (λ (g : Framing). g.end_kind) is_of) ∙ ap (λ (d : Framed). d.after) gives.leading in
            let here : decoded ≡ step_in format new.walk.framed.after old.totals.records r =
            sym is ∙ ap (λ (n : ℕ). step_in format given.after.now n r) (gives.number ∙ sym leads.number) ∙ same_step_in format given.after.now new.walk.framed.after old.totals.records r ends in
            let number : new.totals.records ≡ new.walk.number = adds.records ∙ records in
            let next : new.totals.records ≡ suc old.totals.records = number ∙ gives.next_number ∙ ap suc (sym leads.number) in
            let noted = adds.notes in
            let more = one_more leads.faults (found_fault decoded run) in
            let few = leads.few in
            let old_within = leads.within in
            let next_number = gives.next_number in
            record {
              faults = with_fault leads.faults (found_fault decoded run);
              number = number;
              within = within;
              few = omega (arith, more, few, next_number);
              counts = after_any leads.faults old.totals.faults new.totals.faults (found_fault decoded run)
                  (few_enough old.walk.number (length leads.faults) old_within few) leads.counts (rw counted at adds.faults);
              left =
                  let value : TotalsValue = record { records = old.totals.records; notes = old.totals.notes.counts; faults = leads.faults } in
                  let stepped : totals_after_framed format old.state (ahead r new.walk.framed) value ≡ total = rw gives.leading at leads.left in
                  let same : totals_after format (after_record old.state decoded) new.walk.framed.after new.walk.framed.records new.walk.framed.fault (with_record (is_end format r) old.state decoded value) ≡ total = rw here stepped in
                  rw (judged, next, noted, notes, found) same;
            };
      }

  -- nothing is left
  pub no_record : GivesNoRecord old.walk new.walk → new.totals ≡ old.totals → (total : TotalsValue) → Leads format old total → HasTotals new.totals total
  no_record gives same total leads =
      let value : TotalsValue = record { records = old.totals.records; notes = old.totals.notes.counts; faults = leads.faults } in
      let e : value ≡ total = rw (gives.records, gives.fault) at leads.left in
      record {
        records = ap (λ (t : Totals). t.records) same ∙ ap (λ (v : TotalsValue). v.records) e;
        notes = ap (λ (t : Totals). t.notes.counts) same ∙ ap (λ (v : TotalsValue). v.notes) e;
        faults = subst (λ (v : TotalsValue). CountsFaults v.faults new.totals.faults) e (rw same leads.counts);
      }

  -- the records break
  pub break_counted : (fault : RecordFault) → GivesFault old.walk fault new.walk → new.totals.records ≡ old.totals.records → new.totals.notes ≡ old.totals.notes → CountsOneMore old.totals.faults (Record fault) new.totals.faults → (total : TotalsValue) → Leads format old total → HasTotals new.totals total
  break_counted fault gives records notes adds total leads =
      let value : TotalsValue = record { records = old.totals.records; notes = old.totals.notes.counts; faults = leads.faults } in
      let e : with_break (Some fault) value ≡ total = rw gives.broken_here at leads.left in
      record {
        records = records ∙ ap (λ (v : TotalsValue). v.records) e;
        notes = rw notes (ap (λ (v : TotalsValue). v.notes) e);
        faults = subst (λ (v : TotalsValue). CountsFaults v.faults new.totals.faults) e
            (adds leads.faults (few_enough old.walk.number (length leads.faults) leads.within leads.few) leads.counts);
      }
