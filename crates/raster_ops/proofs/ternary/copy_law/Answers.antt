use Rattle.raster_ops.proofs.ColourLemmas.{same_parts}
use Rattle.raster_ops.proofs.TernaryLemmas.{copied_pattern, copied_pen, copied_source}
use Rattle.raster_ops.proofs.ternary.copy_law.Goals as goal

pub returns-clause-source : goal.returns-clause-source
returns-clause-source c = λ p s o h.
    same_parts _ _ (copied_source p.r s.r o.r h.r) (copied_source p.g s.g o.g h.g) (copied_source p.b s.b o.b h.b)

pub returns-clause-pattern : goal.returns-clause-pattern
returns-clause-pattern c = λ p s o h.
    same_parts _ _ (copied_pattern p.r s.r o.r h.r) (copied_pattern p.g s.g o.g h.g) (copied_pattern p.b s.b o.b h.b)

pub returns-clause-pen : goal.returns-clause-pen
returns-clause-pen c = λ p o h.
    same_parts _ _ (copied_pen p.r o.r h.r) (copied_pen p.g o.g h.g) (copied_pen p.b o.b h.b)
