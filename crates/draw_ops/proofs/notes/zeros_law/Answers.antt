use Rattle.std.proofs.Common.{arith}
use Rattle.draw_ops.proofs.NoteLemmas.{added_zeros}
use Rattle.draw_ops.proofs.notes.zeros_law.Goals as goal

pub returns : goal.returns
returns c = added_zeros 9 c.args.counts.now c.requires (λ i. omega (arith, c.type_inv.counts i))
