-- What was written and counted for all rows is the text and the number of writes of the file's run.
use Rattle.player.proofs.ClearedBandLemmas.{run_counted, run_few, run_prefix, run_written}
use Rattle.player.proofs.bands.write_image.Goals as goal

pub returns-in-Ok-clause-text : goal.returns-in-Ok-clause-text
returns-in-Ok-clause-text g c = run_written c.answer_law.ensures c.size_law.ensures c.content_law.ensures c.args.cleared.now c.args.plan c.args.scratch.now c.requires.ready c.rows_law.ensures _ _ c.in-Ok.ensures.text

pub returns-in-Ok-clause-writes : goal.returns-in-Ok-clause-writes
returns-in-Ok-clause-writes g c = rw c.writes.ensures (run_counted c.answer_law.ensures c.size_law.ensures c.content_law.ensures c.args.cleared.now c.args.plan c.args.scratch.now c.requires.ready _ c.in-Ok.ensures.counted)

pub returns-in-Ok-clause-few : goal.returns-in-Ok-clause-few
returns-in-Ok-clause-few g c = rw c.writes.ensures (run_few c.answer_law.ensures c.size_law.ensures c.content_law.ensures c.args.cleared.now c.args.plan c.args.scratch.now c.requires.ready _ c.in-Ok.ensures.counted)

pub returns-in-Err-clause-prefix : goal.returns-in-Err-clause-prefix
returns-in-Err-clause-prefix g c = run_prefix c.answer_law.ensures c.size_law.ensures c.content_law.ensures c.args.cleared.now c.args.plan c.args.scratch.now c.requires.ready _ _ c.in-Err.ensures.prefix
