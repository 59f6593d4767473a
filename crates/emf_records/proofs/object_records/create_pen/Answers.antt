use Rattle.std.proofs.Common.{arith}
use Rattle.std.proofs.lemmas.Grind.{common_steps}
use Rattle.emf_records.proofs.object_records.create_pen.Goals as goal

pub returns : goal.returns
returns c = grind (arith, common_steps)
