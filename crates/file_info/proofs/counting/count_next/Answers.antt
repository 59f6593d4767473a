-- A record is counted, or the fault by which the records break.
use Rattle.std.proofs.Common.{◌≡◌, ◌≤◌, ℕ, ◌==◌, refl, subst, ap, sym, ◌∙◌}
use Rattle.draw_ops.specs.RecordOf.{record_of}
use Rattle.draw_ops.specs.Records.{Framing, record_limit}
use Rattle.draw_ops.specs.Results.{result_map}
use Rattle.draw_ops.specs.StepOf.{step_value_of}
use Rattle.meta_headers.specs.Opening.{framing_of}
use Rattle.listing.specs.DryRunState.{fault_in_runs}
use Rattle.listing.specs.Walk.{GivesFault, GivesRecord}
use Rattle.file_info.specs.Counting.{tally}
use Rattle.file_info.proofs.CountingLemmas.{break_counted, one_record}
use Rattle.file_info.proofs.counting.count_next.Goals as goal

pub returns-in_ok-add_record-in-Ok-Some : goal.returns-in_ok-add_record-in-Ok-Some
returns-in_ok-add_record-in-Ok-Some g c =
    let f = g.F.Format.framing in
    let gives : GivesRecord f c.args.walk.now c.in-Ok-Some.given c.next_record.new.self = rw c.in-Ok-Some.field-0-is at c.in-Ok-Some.ensures in
    let within : c.next_record.new.self.number ≤ record_limit = subst (λ (n : ℕ). n ≤ record_limit) c.number-totals.ensures.value c.number-totals.ensures.within in
    let r = record_of c.in-Ok-Some.given.record in
    let kind : c.end_kind.result ≡ (framing_of c.args.format).end_kind = c.end_kind.ensures ∙ ap (λ (it : Framing). it.end_kind) (sym c.requires.framing) in
    let run = c.try_step-fault.ensures.fault
    ∙ ap (λ (k : ℕ). fault_in_runs (r.kind == k) c.args.run.now (result_map step_value_of c.step_in-decoded.result)) kind in
    one_record c.args.format f c.requires.framing (tally c.args.run.now c.args.walk.now c.args.totals.now) (tally c.try_step-fault.new.self c.next_record.new.self c.add_record.new.totals)
    c.in-Ok-Some.given (result_map step_value_of c.step_in-decoded.result) c.try_step-fault.result (record c.args.totals.now { records = c.number-totals.result }) gives c.step_in-decoded.ensures
    run c.try_step-fault.ensures.after within c.number-totals.ensures.value refl refl c.in_ok-add_record-in-Ok-Some.ensures

pub returns-in_ok-add-in-Err : goal.returns-in_ok-add-in-Err
returns-in_ok-add-in-Err g c = λ total leads.
    let f = g.F.Format.framing in
    let gives : GivesFault c.args.walk.now c.in-Err.fault c.next_record.new.self = c.in-Err.ensures in
    break_counted c.args.format f c.requires.framing (tally c.args.run.now c.args.walk.now c.args.totals.now)
    (tally c.args.run.now c.next_record.new.self (record c.args.totals.now { faults = c.add.new.self })) c.in-Err.fault gives refl refl c.in_ok-add-in-Err.ensures total leads
