use Rattle.std.proofs.Common.{◌≡◌, suc, Bool, Result, Ok, Some, ap, length, arith, rules, ◌∙◌}
use Rattle.draw_ops.specs.Content.{Content, broken_by, with_step}
use Rattle.draw_ops.specs.Gives.{Stays, put}
use Rattle.draw_ops.specs.OperationOf.{operation_of}
use Rattle.draw_ops.specs.Records.{record_limit}
use Rattle.draw_ops.specs.StepOf.{step_value_of}
use Rattle.draw_ops.specs.declared.record_fault.RecordFault.{RecordFault}
use Rattle.dc_stack.specs.MachineState.{HasStepped, IsDrawingOf, RejectsStep}
use Rattle.player.proofs.AfterLemmas.{lines_after, lines_for_first, capacity_after}
use Rattle.player.proofs.StepLemmas.{broken_stops, rejected_stops}
use Rattle.player.proofs.playing.play_steps.Goals as goal

pub draw-requires : goal.draw-requires
unfolding record_limit
draw-requires g c =
    let content = g.S.HasContent.content in
    let loop = c.loop-is_put in
    let step = c.next_into.new.step in
    let is : put c.next_into.result step ≡ Ok (Some step) = ap (λ (r : Result Bool RecordFault). put r step) (c.in-Ok.is ∙ ap Ok c.if-not-is_put.false) in
    let begins : content loop.source ≡ with_step (step_value_of step) (content c.next_into.new.self) = rw is at c.next_into.ensures.gives in
    let lines = lines_for_first c.need_law.ensures loop.drawings.rows.capacity (content loop.source) (content c.next_into.new.self) (step_value_of step) loop.machine c.step_into.new.self c.step_into.new.drawn begins c.in-Ok-step_into.ensures.drawn c.in-Ok-step_into.ensures.placed loop.invariant.lines in
    search (lines, rules)

pub loop-is_put-preserved : goal.loop-is_put-preserved
loop-is_put-preserved g c =
    let content = g.S.HasContent.content in
    let loop = c.loop-is_put in
    let old = loop.machine in
    let new = c.step_into.new.self in
    let step = c.next_into.new.step in
    let rest = content c.next_into.new.self in
    let is : put c.next_into.result step ≡ Ok (Some step) = ap (λ (r : Result Bool RecordFault). put r step) (c.in-Ok.is ∙ ap Ok c.if-not-is_put.false) in
    let begins : content loop.source ≡ with_step (step_value_of step) rest = rw is at c.next_into.ensures.gives in
    let stepped : HasStepped (operation_of step.op) old new = c.in-Ok-step_into.ensures.stepped in
    let drawn : IsDrawingOf (operation_of step.op) old new c.step_into.new.drawn = c.in-Ok-step_into.ensures.drawn in
    let one_more : length (content loop.source).steps ≡ suc (length rest.steps) = ap (λ (k : Content). length k.steps) begins in
    let inv = loop.invariant.few in
    let few = c.draw.ensures.few in
    record {
      few = omega (arith, one_more, inv, few);
      same_surface = search rules;
      goes_on = search rules;
      capacity = capacity_after (content loop.source) rest (step_value_of step) old new begins stepped c.step_into.ensures.goes_on loop.invariant.capacity;
      same_capacity = search rules;
      lines = rw c.draw.ensures.capacity (lines_after loop.drawings.rows.capacity (content loop.source) rest (step_value_of step) old new begins stepped loop.invariant.lines);
      held = search rules;
      rows = search rules;
      fault = search (begins, rules);
      stops = search (begins, stepped, rules);
      image = search (begins, stepped, drawn, rules);
      writes = search (begins, stepped, drawn, rules);
    }

pub returns-in-Err-clause-refusal : goal.returns-in-Err-clause-refusal
returns-in-Err-clause-refusal g c =
    let content = g.S.HasContent.content in
    let loop = c.loop-is_put in
    let left = content loop.source in
    let broken : Stays (broken_by c.in-Err.fault) left (content c.next_into.new.self) =
    rw (ap (λ (r : Result Bool RecordFault). put r c.next_into.new.step) c.in-Err.is) at c.next_into.ensures.gives in
    broken_stops (content c.args.source.now) left c.args.machine.now.state loop.machine.state c.args.machine.now.surface loop.invariant.stops c.in-Err.fault broken.is loop.invariant.fault

pub returns-in-Err-step_into-clause-refusal : goal.returns-in-Err-step_into-clause-refusal
returns-in-Err-step_into-clause-refusal g c =
    let content = g.S.HasContent.content in
    let loop = c.loop-is_put in
    let step = c.next_into.new.step in
    let is : put c.next_into.result step ≡ Ok (Some step) = ap (λ (r : Result Bool RecordFault). put r step) (c.in-Ok.is ∙ ap Ok c.if-not-is_put.false) in
    let begins : content loop.source ≡ with_step (step_value_of step) (content c.next_into.new.self) = rw is at c.next_into.ensures.gives in
    let rejected : RejectsStep (operation_of step.op) loop.machine c.in-Err-step_into.fault = c.in-Err-step_into.ensures.rejected in
    rw loop.invariant.same_surface at
    (rejected_stops c.need_law.ensures (content c.args.source.now) (content loop.source) (content c.next_into.new.self) (step_value_of step) c.args.machine.now.state loop.machine c.in-Err-step_into.fault begins loop.invariant.capacity rejected
    (rw loop.invariant.same_surface loop.invariant.stops))

pub returns-in-Err-clause-bounded : goal.returns-in-Err-clause-bounded
unfolding record_limit
returns-in-Err-clause-bounded g c =
    let few = c.loop-is_put.invariant.few in
    let short = c.requires.short in omega (arith, few, short)

pub returns-then-not-is_put-clause-bounded : goal.returns-then-not-is_put-clause-bounded
unfolding record_limit
returns-then-not-is_put-clause-bounded g c =
    let few = c.loop-is_put.invariant.few in
    let short = c.requires.short in omega (arith, few, short)

pub returns-in-Err-step_into-clause-bounded : goal.returns-in-Err-step_into-clause-bounded
unfolding record_limit
returns-in-Err-step_into-clause-bounded g c =
    let few = c.loop-is_put.invariant.few in
    let short = c.requires.short in omega (arith, few, short)
