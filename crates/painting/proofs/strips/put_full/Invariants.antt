use Rattle.std.proofs.Common.{[], drop}
use Rattle.painting.specs.declared.row_op.RowOp.TheVariants.{Full}
use Rattle.painting.proofs.StripLemmas.{HasPainted}
use Rattle.painting.proofs.strips.put_full.Given as goal

-- the spans before the index are painted
abbrev pub invariant-loop-span : goal.invariant-loop-span
invariant-loop-span l = HasPainted (Full l.splat) [] l.y l.spans (drop l.span-index l.spans) l.fn.canvas l.canvas
