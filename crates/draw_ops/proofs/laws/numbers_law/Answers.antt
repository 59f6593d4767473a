use Rattle.draw_ops.proofs.NumberLemmas.{steps_are_numbered}
use Rattle.draw_ops.proofs.laws.numbers_law.Goals as goal

pub returns : goal.returns
returns c = steps_are_numbered
