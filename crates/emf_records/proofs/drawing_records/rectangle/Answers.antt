use Rattle.std.proofs.Common.{rules}
use Rattle.emf_records.proofs.drawing_records.rectangle.Goals as goal

pub returns : goal.returns
returns c = search rules
