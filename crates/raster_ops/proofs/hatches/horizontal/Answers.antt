use Rattle.std.proofs.Common.{◌∙◌, sym}
use Rattle.std.proofs.lemmas.Bool.{eq-eqb}
use Rattle.raster_ops.proofs.HatchLemmas.{all_cells}
use Rattle.raster_ops.proofs.hatches.horizontal.Goals as goal

pub returns-then-row-eq0 : goal.returns-then-row-eq0
returns-then-row-eq0 c = λ m h. all_cells m h ∙ sym (eq-eqb c.args.row 0 c.if-row-eq0.true)
