-- The law of cells.
use Rattle.mapping.proofs.CellLemmas as lemmas
use Rattle.mapping.proofs.cell_count.cell_law.Goals as goal

pub returns : goal.returns
returns c = lemmas.cells_law
