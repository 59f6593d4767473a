use Rattle.std.proofs.Common.{◌≡◌, ℕ, ◌<◌, get_or, length, cond}
use Rattle.mapping.specs.declared.geometry.Colour.{Colour}
use Rattle.mapping.specs.Pixels.{count_indexes}
use Rattle.canvas.proofs.CellLemmas.{stage}
use Rattle.canvas.proofs.parts.change_cells_of.Given as goal

-- the cells so far are changed and counted
abbrev pub invariant-loop-offset : goal.invariant-loop-offset
invariant-loop-offset g l = record {
  each : (k : ℕ) (d : Colour) → k < length l.part → get_or l.part k d ≡ cond (stage l.cells l.column l.offset k) (g.C.PixelChange.made l.change (get_or l.fn.part k d)) (get_or l.fn.part k d);
  count : l.count ≡ count_indexes (stage l.cells l.column l.offset) 0 (length l.part);
}
