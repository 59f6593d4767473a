use Rattle.std.proofs.Common.{arith}
use Rattle.dc_stack.specs.Path.{piece_limit}
use Rattle.dc_stack.proofs.path.GatheredPath.count.Goals as goal

pub overflow_cast-result : goal.overflow_cast-result
unfolding piece_limit
overflow_cast-result c = let few = c.requires.gathered.few in let count = c.len.ensures in omega (arith, few, count)
