use Rattle.std.proofs.Common.{rules}
use Rattle.emf_records.proofs.drawing_records.lists_at.Goals as goal

pub returns : goal.returns
returns c = search rules

pub returns-in_default-points_at : goal.returns-in_default-points_at
returns-in_default-points_at c = search rules
