-- The first of the others is the first of all.
use Rattle.std.proofs.Common.{◌≡◌, drop}
use Rattle.mapping.specs.Parts.{first_fine}
use Rattle.mapping.proofs.parts.first_fine.Given as goal

abbrev pub invariant-loop-parts : goal.invariant-loop-parts
invariant-loop-parts l = first_fine l.side (drop l.parts-index l.counts) ≡ first_fine l.side l.counts
