-- The line of the record in front is put.
use Rattle.std.proofs.Common.{◌≡◌, ℕ, ◌==◌, ap, sym, ◌∙◌}
use Rattle.draw_ops.specs.RecordOf.{record_of}
use Rattle.draw_ops.specs.Records.{Framing}
use Rattle.draw_ops.specs.Results.{result_map}
use Rattle.draw_ops.specs.StepOf.{step_value_of}
use Rattle.meta_headers.specs.Opening.{framing_of}
use Rattle.listing.specs.DryRunState.{fault_in_runs}
use Rattle.listing.specs.Putting.{coming}
use Rattle.listing.specs.Walk.{GivesRecord}
use Rattle.listing.proofs.LineLemmas.{one_line}
use Rattle.listing.proofs.listing_output.put_next.Goals as goal

pub returns-in-Ok-Some : goal.returns-in-Ok-Some
returns-in-Ok-Some g c =
    let f = g.F.Format.framing in
    let gives : GivesRecord f c.args.walk.now c.in-Ok-Some.given c.next_record.new.self = rw c.in-Ok-Some.field-0-is at c.in-Ok-Some.ensures in
    let r = record_of c.in-Ok-Some.given.record in
    let kind : c.end_kind.result ≡ (framing_of c.args.format).end_kind = c.end_kind.ensures ∙ ap (λ (it : Framing). it.end_kind) (sym c.requires.framing) in
    let run = c.try_step-run.ensures.fault
    ∙ ap (λ (k : ℕ). fault_in_runs (r.kind == k) c.args.dry_run.now (result_map step_value_of c.step_in-decoded.result)) kind in
    one_line c.args.format f c.requires.framing c.args.buffer.now c.put_line.new.buffer (coming c.args.walk.now c.args.dry_run.now) (coming c.next_record.new.self c.try_step-run.new.self)
    c.in-Ok-Some.given (result_map step_value_of c.step_in-decoded.result) c.try_step-run.result gives c.step_in-decoded.ensures run c.try_step-run.ensures.after c.put_line.ensures
