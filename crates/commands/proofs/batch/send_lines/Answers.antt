-- One file after the other.
use Rattle.std.proofs.Common.{arith}
use Rattle.std.proofs.lemmas.List.{take_all}
use Rattle.command_lines.specs.BatchWords.{names_in}
use Rattle.commands.proofs.BatchLineLemmas.{lines_before, lines_finished, lines_unflushed, next_input, then_begun, then_lines, then_unread}
use Rattle.commands.proofs.batch.send_lines.Goals as goal

pub returns-in_default-clause-written : goal.returns-in_default-clause-written
returns-in_default-clause-written g c = lines_before _ _ c.args.names.now c.loop-name.name-index c.loop-name.end _ _ c.loop-name.invariant.lines

pub returns-in_default-send_counted-clause-written : goal.returns-in_default-send_counted-clause-written
returns-in_default-send_counted-clause-written g c =
    then_begun _ _ c.args.names.now c.loop-name.name-index _ c.loop-name-test.true c.loop-name.end c.in-Ok.line.end _ _ _ c.in-Ok.line.text.items c.loop-name.invariant.lines
    (next_input c.args.names.now c.loop-name.name-index _ c.loop-name-test.true _ _ (g.I.Read.remaining c.batch_line.new.input) c.args.task c.requires.inputs c.loop-name.invariant.unread c.in-Ok.line.text.items c.in-Ok.line.end c.in-Ok.ensures.line)
    (rw c.as_slice.ensures.value at c.in_default-send_counted.ensures.err)

pub loop-name-preserved : goal.loop-name-preserved
loop-name-preserved g c =
    let before = c.loop-name.invariant.count in
    let here = c.in-Ok-send_counted.ensures.count in
    record {
      lines = rw c.worse-end.ensures (then_lines _ _ c.args.names.now c.loop-name.name-index _ c.loop-name-test.true c.loop-name.end c.in-Ok.line.end _ _ _ c.in-Ok.line.text.items c.loop-name.invariant.lines
          (next_input c.args.names.now c.loop-name.name-index _ c.loop-name-test.true _ _ (g.I.Read.remaining c.batch_line.new.input) c.args.task c.requires.inputs c.loop-name.invariant.unread c.in-Ok.line.text.items c.in-Ok.line.end c.in-Ok.ensures.line)
          (rw c.as_slice.ensures.value at c.in-Ok-send_counted.ensures.ok));
      unread = then_unread c.args.names.now c.loop-name.name-index _ c.loop-name-test.true _ _ _ c.loop-name.invariant.unread c.in-Ok.ensures.unread;
      capacity = c.in-Ok-send_counted.ensures.capacity;
      count = omega (arith, before, here);
    }

pub returns-in-Ok-flush_sent-clause-written : goal.returns-in-Ok-flush_sent-clause-written
returns-in-Ok-flush_sent-clause-written g c =
    lines_finished _ _ (names_in c.args.names.now) c.loop-name.end _ (g.O.Write.contents c.loop-name.out) _
    (rw (take_all c.loop-name.name-index c.args.names.now c.loop-name-test.false) at c.loop-name.invariant.lines) c.in-Ok-flush_sent.ensures.bytes

pub returns-in-Err-clause-written : goal.returns-in-Err-clause-written
returns-in-Err-clause-written g c =
    lines_unflushed _ _ (names_in c.args.names.now) c.loop-name.end _ (g.O.Write.contents c.loop-name.out) _
    (rw (take_all c.loop-name.name-index c.args.names.now c.loop-name-test.false) at c.loop-name.invariant.lines) c.in-Err.ensures.bytes
