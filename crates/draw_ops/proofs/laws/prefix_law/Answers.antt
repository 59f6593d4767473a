use Rattle.draw_ops.proofs.PrefixLemmas.{prefixes_are_cut_short}
use Rattle.draw_ops.proofs.laws.prefix_law.Goals as goal

pub returns : goal.returns
returns c = prefixes_are_cut_short c.number_law.ensures
