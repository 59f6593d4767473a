use Rattle.raster_ops.proofs.TernaryLemmas.{without_pattern, without_source}
use Rattle.raster_ops.proofs.ternary.dependence_law.Goals as goal

pub returns-clause-source : goal.returns-clause-source
returns-clause-source c = λ table p s t o h. without_source table p s t o h

pub returns-clause-pattern : goal.returns-clause-pattern
returns-clause-pattern c = λ table p q s o h. without_pattern table p q s o h
