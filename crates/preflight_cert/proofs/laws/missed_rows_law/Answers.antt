use Rattle.preflight_cert.proofs.MissedLemmas.{missed_rows_laws}
use Rattle.preflight_cert.proofs.laws.missed_rows_law.Goals as goal

pub returns : goal.returns
returns c = missed_rows_laws c.cell_law.ensures c.wide_cell_law.ensures c.line_box_law.ensures c.wide_stroke_law.ensures c.placing_law.ensures
