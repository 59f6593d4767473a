-- A step that was put is the first of what was left.
use Rattle.std.proofs.Common.{◌≡◌, Bool, Result, Ok, Some, ap, inr, ◌∙◌}
use Rattle.draw_ops.specs.Gives.{put}
use Rattle.draw_ops.specs.StepOf.{step_value_of}
use Rattle.draw_ops.specs.declared.record_fault.RecordFault.{RecordFault}
use Rattle.preflight_cert.proofs.stepping.play_next.Goals as goal

pub returns-in-Ok-step_into-clause-plays : goal.returns-in-Ok-step_into-clause-plays
returns-in-Ok-step_into-clause-plays g c =
    let step = c.next_into.new.step in
    let is : put c.next_into.result step ≡ Ok (Some step) = ap (λ (r : Result Bool RecordFault). put r step) (c.in-Ok.is ∙ ap Ok c.if-not-is_put.false) in
    let stepped = c.in-Ok-step_into.ensures in
    record {
      first = rw is at c.next_into.ensures.gives;
      stepped = stepped.stepped;
      drawing = stepped.drawn;
      placed = rw stepped.goes_on.surface stepped.placed;
      nib = rw stepped.goes_on.surface stepped.nib;
      surface = stepped.goes_on.surface;
    }

pub returns-in-Err-step_into-clause-plays : goal.returns-in-Err-step_into-clause-plays
returns-in-Err-step_into-clause-plays g c =
    let step = c.next_into.new.step in
    let is : put c.next_into.result step ≡ Ok (Some step) = ap (λ (r : Result Bool RecordFault). put r step) (c.in-Ok.is ∙ ap Ok c.if-not-is_put.false) in
    inr (record {
      rest = g.S.HasContent.content c.next_into.new.self;
      step = step_value_of step;
      fault = c.in-Err-step_into.fault;
      first = rw is at c.next_into.ensures.gives;
      rejected = c.in-Err-step_into.ensures.rejected;
      number = c.of_step.ensures.number;
      reported = c.of_step.ensures.fault;
    })
