use Rattle.preflight_cert.proofs.LayerLemmas.{drawing_box_laws}
use Rattle.preflight_cert.proofs.laws.drawing_box_law.Goals as goal

pub returns : goal.returns
returns c =
    drawing_box_laws c.cell_law.ensures c.wide_cell_law.ensures c.nib_law.ensures c.line_box_law.ensures c.wide_stroke_law.ensures c.placing_law.ensures
