use Rattle.painting.proofs.MixLemmas.{HasMixedCells}
use Rattle.painting.proofs.strips.put_cells.Given as goal

-- the cells before this column are mixed
abbrev pub invariant-loop-x : goal.invariant-loop-x
invariant-loop-x l = HasMixedCells l.keeps l.flips l.cells l.part.y l.part.columns.from l.x l.fn.canvas l.canvas
