-- The law of wide cells.
use Rattle.mapping.proofs.WideCellLemmas as lemmas
use Rattle.mapping.proofs.cell_count.wide_cell_law.Goals as goal

pub returns : goal.returns
returns c = lemmas.wide_cells_law
