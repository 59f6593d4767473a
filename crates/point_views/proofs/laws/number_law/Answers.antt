use Rattle.point_views.proofs.PrefixLemmas.{reads_within_prefix}
use Rattle.point_views.proofs.laws.number_law.Goals as goal

pub returns : goal.returns
returns c = reads_within_prefix
