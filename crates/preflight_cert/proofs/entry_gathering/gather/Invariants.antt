use Rattle.std.proofs.Common.{◌≡◌, ◌+◌, ◌*◌, ◌≤◌, length}
use Rattle.std.specs.List.{All}
use Rattle.draw_ops.specs.Records.{record_limit}
use Rattle.preflight_cert.specs.After.{needs_after, notes_after, state_after}
use Rattle.preflight_cert.specs.DraftOf.{Adds}
use Rattle.preflight_cert.specs.Drawings.{drawings_of}
use Rattle.preflight_cert.specs.Gathered.{least_budget, least_entries}
use Rattle.preflight_cert.specs.Stop.{end_of, stop_of, stopped}
use Rattle.preflight_cert.specs.TextLaws.{IsEntry}
use Rattle.preflight_cert.specs.declared.draft.Draft.{Draft}
use Rattle.preflight_cert.specs.declared.version.Version.TheVariants.{Mpc2}
use Rattle.preflight_cert.proofs.EmfPlusLemmas.{IsFound}
use Rattle.preflight_cert.proofs.entry_gathering.gather.Given as goal

-- what is left is gathered as the whole is
abbrev pub invariant-loop-is_played : goal.invariant-loop-is_played
invariant-loop-is_played g l =
    let content = g.S.HasContent.content in
    let whole = content l.fn.source in
    let left = content l.source in
    let start = l.fn.machine.surface in
    record {
      short : l.totals.records + length left.steps ≤ record_limit;
      few : l.totals.writes ≤ 134217728 * l.totals.records;
      same_surface : l.machine.surface ≡ start;
      counted : l.totals.records + length left.steps ≡ length whole.steps;
      fault : left.fault ≡ whole.fault;
      stops : stop_of whole l.fn.machine.state start ≡ stopped left.steps (end_of whole l.fn.machine.state) l.machine.state start;
      entries : (later : Draft) → Adds l.draft later (least_entries (drawings_of left.steps l.machine.state) start)
          → Adds l.fn.draft later (least_entries (drawings_of whole.steps l.fn.machine.state) start);
      fit : All (IsEntry Mpc2) (least_entries (drawings_of left.steps l.machine.state) start) → All (IsEntry Mpc2) (least_entries (drawings_of whole.steps l.fn.machine.state) start);
      budget : least_budget (drawings_of whole.steps l.fn.machine.state) start ≡ l.totals.writes + least_budget (drawings_of left.steps l.machine.state) start;
      notes : notes_after whole.steps l.fn.noted.counts ≡ notes_after left.steps l.totals.notes.counts;
      after : state_after whole.steps l.fn.machine.state ≡ state_after left.steps l.machine.state;
      found : IsFound whole left l.fn.machine.state l.machine.state l.emf_plus;
      needs : needs_after whole.steps l.fn.machine.state l.fn.machine.needs ≡ needs_after left.steps l.machine.state l.machine.needs;
    }

abbrev pub decreases-loop-is_played : goal.decreases-loop-is_played
decreases-loop-is_played g l = length (g.S.HasContent.content l.source).steps
