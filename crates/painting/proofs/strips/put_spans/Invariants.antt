use Rattle.std.proofs.Common.{drop, map}
use Rattle.painting.proofs.StripLemmas.{HasPainted}
use Rattle.painting.proofs.strips.put_spans.Given as goal

-- the spans before the index are painted
abbrev pub invariant-loop-span : goal.invariant-loop-span
invariant-loop-span l = HasPainted l.row_op (map (λ b. b.placed) l.cuts) l.y l.spans (drop l.span-index l.spans) l.fn.canvas l.canvas
