use Rattle.draw_ops.proofs.FramedLemmas.{one_way, by_function}
use Rattle.draw_ops.proofs.laws.records_law.Goals as goal

pub returns-clause-one_way : goal.returns-clause-one_way
returns-clause-one_way c = one_way

pub returns-clause-by_function : goal.returns-clause-by_function
returns-clause-by_function c = by_function
