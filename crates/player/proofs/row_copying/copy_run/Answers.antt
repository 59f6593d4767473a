-- The rows that were copied are those of the image that the file's run makes.
use Rattle.player.proofs.ClearedBandLemmas.{run_copied}
use Rattle.player.proofs.row_copying.copy_run.Goals as goal

pub returns : goal.returns
returns c = run_copied c.answer_law.ensures c.size_law.ensures c.content_law.ensures c.args.cleared.now c.args.plan c.args.scratch.now c.requires.ready c.args.layout _ _ c.copy_bands.ensures
