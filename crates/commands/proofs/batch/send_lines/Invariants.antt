use Rattle.std.proofs.Common.{◌-◌, ◌^◌, ◌<◌, ◌≤◌, take}
use Rattle.command_lines.specs.BatchWords.{names_in}
use Rattle.commands.proofs.BatchLineLemmas.{HasLines, IsUnread}
use Rattle.commands.proofs.batch.send_lines.Given as goal

-- the lines of the files so far were written, standard input was read for one of them at most, and there is room for one more fault
abbrev pub invariant-loop-name : goal.invariant-loop-name
invariant-loop-name g l = record {
  lines : HasLines l.task (g.I.Read.remaining l.fn.input) (names_in (take l.name-index l.names)) l.end (g.O.Write.contents l.fn.out) (g.O.Write.contents l.out);
  unread : IsUnread (names_in (take l.name-index l.names)) (g.I.Read.remaining l.fn.input) (g.I.Read.remaining l.input);
  capacity : g.O.FaultCount.fault_count l.out < 2 ^ 64 - 1;
  count : g.O.FaultCount.fault_count l.fn.out ≤ g.O.FaultCount.fault_count l.out;
}
