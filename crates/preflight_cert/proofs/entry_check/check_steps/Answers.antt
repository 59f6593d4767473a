-- A count of records fits, and what is left is checked as the whole is.
use Rattle.std.proofs.Common.{ℕ, Bool, List, Ok, ap, sym, ◌∙◌, rules}
use Rattle.std.specs.Prelude.{◌||◌}
use Rattle.draw_ops.specs.Content.{Content}
use Rattle.draw_ops.specs.Records.{record_limit}
use Rattle.dc_stack.specs.State.{State}
use Rattle.preflight_cert.specs.After.{notes_after, state_after}
use Rattle.preflight_cert.specs.EntriesOf.{entries_of}
use Rattle.preflight_cert.specs.NextStep.{HasPlayedStep}
use Rattle.preflight_cert.proofs.BudgetLemmas.{budget_then}
use Rattle.preflight_cert.proofs.EmfPlusLemmas.{found_then}
use Rattle.preflight_cert.proofs.RefusalLemmas.{check_stops}
use Rattle.preflight_cert.proofs.entry_check.check_steps.Goals as goal

pub overflow_add-totals-in-loop-is_played : goal.overflow_add-totals-in-loop-is_played
unfolding record_limit
overflow_add-totals-in-loop-is_played g c = search rules

pub take_entry-requires : goal.take_entry-requires
take_entry-requires g c =
    let content = g.S.HasContent.content in
    let next = c.play_next.new in
    let played : HasPlayedStep (content c.loop-is_played.source) (content next.source) c.loop-is_played.machine next.machine next.step next.drawn = rw (c.in-Ok.is ∙ ap Ok c.if-not-is_played.false) at c.play_next.ensures.plays in
    let placed = played.placed in
    let nib = played.nib in search (placed, nib, rules)

pub loop-is_played-preserved : goal.loop-is_played-preserved
loop-is_played-preserved g c =
    let content = g.S.HasContent.content in
    let next = c.play_next.new in
    let counts = c.loop-is_played.totals.notes.counts in
    let rest = content next.source in
    let played : HasPlayedStep (content c.loop-is_played.source) rest c.loop-is_played.machine next.machine next.step next.drawn = rw (c.in-Ok.is ∙ ap Ok c.if-not-is_played.false) at c.play_next.ensures.plays in
    let begins = played.first in
    let stepped = played.stepped in
    let drawn = played.drawing in
    record {
      short = search (begins, rules);
      few = search rules;
      same_surface = played.surface ∙ c.loop-is_played.invariant.same_surface;
      counted = search (begins, rules);
      fault = search (begins, rules);
      order = search (begins, stepped, drawn, rules);
      budget = search (begins, stepped, drawn, rules, budget_then);
      after = c.loop-is_played.invariant.after ∙ ap (λ (k : Content). state_after k.steps c.loop-is_played.machine.state) begins
          ∙ ap (λ (s : State). state_after rest.steps s) (sym stepped.state);
      found = found_then (content c.args.source.now) (content c.loop-is_played.source) rest c.args.machine.now.state c.loop-is_played.machine next.machine
          next.step next.drawn c.loop-is_played.emf_plus c.with-emf_plus.result c.loop-is_played.invariant.found begins stepped.state drawn
          c.with-emf_plus.ensures.contained (c.with-emf_plus.ensures.drawn ∙ ap (λ (b : Bool). c.loop-is_played.emf_plus.is_drawn || b) c.is_some.ensures);
      notes = c.loop-is_played.invariant.notes ∙ ap (λ (k : Content). notes_after k.steps counts) begins
          ∙ ap (λ (n : List ℕ). notes_after rest.steps n) (sym c.with_all-totals.ensures);
      needs = search (begins, stepped, rules);
    }

pub returns-in-Err-clause-refusal : goal.returns-in-Err-clause-refusal
returns-in-Err-clause-refusal g c =
    let content = g.S.HasContent.content in
    let loop = c.loop-is_played in
    check_stops c.args.machine.now.state _ (content c.args.source.now) (content loop.source) loop.totals.records loop.machine c.in-Err.refusal (sym loop.invariant.counted) loop.invariant.fault
    (rw c.in-Err.is at c.play_next.ensures.plays) (entries_of loop.entries) (rw loop.invariant.same_surface loop.invariant.order)
