use Rattle.std.proofs.Common.{◌≡◌, ◌+◌, ◌*◌, ◌≤◌, length}
use Rattle.draw_ops.specs.Records.{record_limit}
use Rattle.preflight_cert.specs.After.{needs_after, notes_after, state_after}
use Rattle.preflight_cert.specs.Checked.{check_of, checked}
use Rattle.preflight_cert.specs.Drawings.{drawings_of}
use Rattle.preflight_cert.specs.Entries.{budget_of}
use Rattle.preflight_cert.specs.EntriesOf.{entries_of}
use Rattle.preflight_cert.specs.Stop.{end_of}
use Rattle.preflight_cert.proofs.EmfPlusLemmas.{IsFound}
use Rattle.preflight_cert.proofs.entry_check.check_steps.Given as goal

-- what is left is checked as the whole is
abbrev pub invariant-loop-is_played : goal.invariant-loop-is_played
invariant-loop-is_played g l =
    let content = g.S.HasContent.content in
    let start = l.fn.machine.surface in
    record {
      short : l.totals.records + length (content l.source).steps ≤ record_limit;
      few : l.totals.writes ≤ 134217728 * l.totals.records;
      same_surface : l.machine.surface ≡ start;
      counted : length (content l.fn.source).steps ≡ l.totals.records + length (content l.source).steps;
      fault : (content l.source).fault ≡ (content l.fn.source).fault;
      order : check_of (content l.fn.source) l.fn.machine.state start (entries_of l.fn.given) ≡ checked (content l.source).steps (end_of (content l.fn.source) l.fn.machine.state) (length (content l.fn.source).steps) l.machine.state start (entries_of l.entries);
      budget : budget_of (drawings_of (content l.fn.source).steps l.fn.machine.state) (entries_of l.fn.given) start ≡ l.totals.writes + budget_of (drawings_of (content l.source).steps l.machine.state) (entries_of l.entries) start;
      notes : notes_after (content l.fn.source).steps l.fn.noted.counts ≡ notes_after (content l.source).steps l.totals.notes.counts;
      after : state_after (content l.fn.source).steps l.fn.machine.state ≡ state_after (content l.source).steps l.machine.state;
      found : IsFound (content l.fn.source) (content l.source) l.fn.machine.state l.machine.state l.emf_plus;
      needs : needs_after (content l.fn.source).steps l.fn.machine.state l.fn.machine.needs ≡ needs_after (content l.source).steps l.machine.state l.machine.needs;
    }

abbrev pub decreases-loop-is_played : goal.decreases-loop-is_played
decreases-loop-is_played g l = length (g.S.HasContent.content l.source).steps
