use Rattle.mapping.proofs.LimitLemmas.{tests_are_limits}
use Rattle.mapping.proofs.limits.limits_law.Goals as goal

pub returns : goal.returns
returns c = tests_are_limits
