use Rattle.std.proofs.Common.{◌≡◌, List, ℕ, drop, sym, ap, ◌∙◌}
use Rattle.std.specs.Borrow.{Bor}
use Rattle.std.proofs.lemmas.List.{take-append-drop, take_rest}
use Rattle.canvas.specs.Sending.{sending_more, sending_kept}
use Rattle.canvas.proofs.sending.send.Goals as goal
use Rattle.canvas.proofs.sending.send.Goals.{in-Ok, in-Err}

-- the writer took the first bytes of the rest, or was interrupted and took none
pub loop-preserved : goal.loop-preserved
loop-preserved g c =
    let rest = c.loop.rest.now in
    elim c.match-write.branch [
      | in-Ok w ↦
          let count = w.in-Ok.count in
          let left : c.match-write.rest.now ≡ drop count rest = ap (λ (r : Bor (List ℕ)). r.now) w.rest-is ∙ take_rest rest count in
          rw left (sending_more _ _ c.loop.invariant (sym (take-append-drop count rest)) w.in-Ok.ensures.bytes)
      | in-Err w ↦ rw w.rest-is (sending_kept c.loop.invariant w.in-Err.ensures.bytes)
    ]
