-- A count of records fits, and so do the numbers of their entries.
use Rattle.std.proofs.Common.{◌≡◌, ℕ, ◌+◌, Bool, List, length, Ok, Option, None, ap, sym, subst, ◌∙◌, arith, rules}
use Rattle.std.specs.List.{All}
use Rattle.std.specs.Prelude.{◌||◌}
use Rattle.std.proofs.lemmas.List.Elements.{All-nil}
use Rattle.draw_ops.specs.Content.{Content}
use Rattle.draw_ops.specs.Records.{record_limit}
use Rattle.dc_stack.specs.MachineState.{MachineState}
use Rattle.dc_stack.specs.State.{State}
use Rattle.preflight_cert.specs.After.{counted_uses, needs_after, notes_after, state_after}
use Rattle.preflight_cert.specs.DraftOf.{Adds}
use Rattle.preflight_cert.specs.Drawings.{drawings_of, drawn_by}
use Rattle.preflight_cert.specs.EmfPlus.{is_emf_plus_alone}
use Rattle.preflight_cert.specs.Gathered.{entry_if_drawn, least_budget, least_entries}
use Rattle.preflight_cert.specs.NextStep.{HasEnded, HasPlayedStep}
use Rattle.preflight_cert.specs.Stop.{end_of, stopped}
use Rattle.preflight_cert.specs.TextLaws.{IsEntry}
use Rattle.preflight_cert.specs.declared.version.Version.TheVariants.{Mpc2}
use Rattle.preflight_cert.proofs.EmfPlusLemmas.{end_by_found, found_all, found_then, uses_by_found}
use Rattle.preflight_cert.proofs.GatheredLemmas.{adds_ended, budget_then, step_adds, step_fit}
use Rattle.preflight_cert.proofs.RefusalLemmas.{gathering_stops}
use Rattle.preflight_cert.proofs.entry_gathering.gather.Goals as goal

pub overflow_add-totals-in-loop-is_played : goal.overflow_add-totals-in-loop-is_played
unfolding record_limit
overflow_add-totals-in-loop-is_played g c = search rules

pub returns-then-not-is_played-clause-few : goal.returns-then-not-is_played-clause-few
unfolding record_limit
returns-then-not-is_played-clause-few g c = let short = c.loop-is_played.invariant.short in omega (arith, short)

-- where nothing is left, what was gathered so far is what is gathered of the whole
pub returns-then-not-is_played-clause-gathers : goal.returns-then-not-is_played-clause-gathers
returns-then-not-is_played-clause-gathers g c =
    let content = g.S.HasContent.content in
    let loop = c.loop-is_played in
    let whole = content c.args.source.now in
    let left = content loop.source in
    let start = c.args.machine.now.surface in
    let state = loop.machine.state in
    let before = loop.invariant in
    let ended : HasEnded left loop.machine c.play_next.new.machine = rw (c.in-Ok.is ∙ ap Ok c.if-not-is_played.true) at c.play_next.ensures.plays in
    let none = ended.none_left in
    let size = ap (λ (k : Content). length k.steps) none in
    let counted = before.counted in
    let budget = before.budget ∙ ap (λ (k : Content). loop.totals.writes + least_budget (drawings_of k.steps state) start) none in
    let first = c.args.machine.now.state in
    let same = c.requires.rules in
    let all = found_all whole left first state loop.emf_plus before.found none in
    let fault : whole.fault ≡ None = sym before.fault ∙ ap (λ (k : Content). k.fault) none in
    let long : length whole.steps ≡ loop.totals.records = omega (arith, counted, size) in
    record {
      unstopped = before.stops ∙ ap (λ (k : Content). stopped k.steps (end_of whole first) state start) none
          ∙ end_by_found whole first c.args.rules loop.emf_plus loop.totals.records fault long same all ∙ c.in-Ok-uses.ensures.allowed;
      entries = before.entries loop.draft (adds_ended loop.draft left state start none);
      fit = before.fit (subst (λ (k : Content). All (IsEntry Mpc2) (least_entries (drawings_of k.steps state) start)) (sym none) (All-nil (IsEntry Mpc2)));
      is_budget = omega (arith, budget);
      records = omega (arith, counted, size);
      notes = sym (before.notes ∙ ap (λ (k : Content). notes_after k.steps loop.totals.notes.counts) none);
      uses = uses_by_found whole first c.play_next.new.machine.state c.args.rules loop.emf_plus c.in-Ok-uses.uses same all
          (before.after ∙ ap (λ (k : Content). state_after k.steps state) none ∙ sym (ap (λ (m : MachineState). m.state) ended.same))
          (c.in-Ok-uses.ensures.uses ∙ ap (λ (n : ℕ). counted_uses n (is_emf_plus_alone c.args.rules loop.emf_plus)) c.held_deletions.ensures);
      needs = ap (λ (m : MachineState). m.needs) ended.same ∙ sym (before.needs ∙ ap (λ (k : Content). needs_after k.steps state loop.machine.needs) none);
    }

pub add_entry-requires : goal.add_entry-requires
add_entry-requires g c =
    let content = g.S.HasContent.content in
    let next = c.play_next.new in
    let played : HasPlayedStep (content c.loop-is_played.source) (content next.source) c.loop-is_played.machine next.machine next.step next.drawn = rw (c.in-Ok.is ∙ ap Ok c.if-not-is_played.false) at c.play_next.ensures.plays in
    let placed = played.placed in
    let nib = played.nib in search (placed, nib, rules)

pub loop-is_played-preserved : goal.loop-is_played-preserved
loop-is_played-preserved g c =
    let content = g.S.HasContent.content in
    let next = c.play_next.new in
    let old = c.loop-is_played.machine in
    let new = next.machine in
    let step = next.step in
    let counts = c.loop-is_played.totals.notes.counts in
    let rest = content next.source in
    let played : HasPlayedStep (content c.loop-is_played.source) rest old new step next.drawn = rw (c.in-Ok.is ∙ ap Ok c.if-not-is_played.false) at c.play_next.ensures.plays in
    let begins = played.first in
    let stepped = played.stepped in
    let drawn = played.drawing in
    let start = c.args.machine.now.surface in
    let same : new.surface ≡ start = played.surface ∙ c.loop-is_played.invariant.same_surface in
    let entered = c.in-Ok-add_entry.ensures in
    let here : Adds c.loop-is_played.draft c.add_entry.new.draft (entry_if_drawn step.number (drawn_by new next.drawn) start)
    × All (IsEntry Mpc2) (entry_if_drawn step.number (drawn_by new next.drawn) start) = (rw same at entered.entries, rw same at entered.fits) in
    record {
      short = search (begins, rules);
      few = search rules;
      same_surface = played.surface ∙ c.loop-is_played.invariant.same_surface;
      counted = search (begins, rules);
      fault = search (begins, rules);
      stops = search (begins, stepped, rules);
      entries = λ later rest. c.loop-is_played.invariant.entries later
          (step_adds start (content c.loop-is_played.source) (content next.source) step old.state new.state (drawn_by new next.drawn) begins stepped.state drawn
          c.loop-is_played.draft c.add_entry.new.draft later here.0 rest);
      fit = λ all. c.loop-is_played.invariant.fit
          (step_fit start (content c.loop-is_played.source) rest step old.state new.state (drawn_by new next.drawn) begins stepped.state drawn here.1 all);
      budget = search (begins, stepped, drawn, rules, budget_then);
      after = c.loop-is_played.invariant.after ∙ ap (λ (k : Content). state_after k.steps old.state) begins
          ∙ ap (λ (s : State). state_after rest.steps s) (sym stepped.state);
      found = found_then (content c.args.source.now) (content c.loop-is_played.source) rest c.args.machine.now.state old new step next.drawn
          c.loop-is_played.emf_plus c.with-emf_plus.result c.loop-is_played.invariant.found begins stepped.state drawn
          c.with-emf_plus.ensures.contained (c.with-emf_plus.ensures.drawn ∙ ap (λ (b : Bool). c.loop-is_played.emf_plus.is_drawn || b) c.is_some.ensures);
      notes = c.loop-is_played.invariant.notes ∙ ap (λ (k : Content). notes_after k.steps counts) begins
          ∙ ap (λ (n : List ℕ). notes_after rest.steps n) (sym c.with_all-totals.ensures);
      needs = search (begins, stepped, rules);
    }

pub returns-in-Err-clause-refusal : goal.returns-in-Err-clause-refusal
returns-in-Err-clause-refusal g c =
    let content = g.S.HasContent.content in
    let loop = c.loop-is_played in
    gathering_stops c.args.machine.now.state _ (content c.args.source.now) (content loop.source) loop.totals.records loop.machine c.in-Err.refusal loop.invariant.counted loop.invariant.fault
    (rw c.in-Err.is at c.play_next.ensures.plays) (rw loop.invariant.same_surface loop.invariant.stops)
