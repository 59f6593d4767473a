use Rattle.std.proofs.Common.{length}
use Rattle.canvas.proofs.CellLemmas.{count_eighth}
use Rattle.canvas.proofs.parts.change_each_eighth.Goals as goal

pub returns-clause-count : goal.returns-clause-count
returns-clause-count g c = rw c.loop-at.auto.part (count_eighth c.args.offset (length c.args.part.now) c.requires)
