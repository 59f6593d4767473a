use Rattle.canvas.specs.Sending.{Sending}
use Rattle.canvas.proofs.sending.send.Given as goal

-- what isn't left was sent
abbrev pub invariant-loop : goal.invariant-loop
invariant-loop g l = Sending (g.W.Write.contents l.fn.out) (g.W.Write.contents l.out) l.bytes l.rest
