use Rattle.std.proofs.Common.{arith, refl, take}
use Rattle.std.proofs.lemmas.Result.{err_from_is_err_and, on_err_weaker}
use Rattle.canvas.specs.Sending.{sending_more, sending_prefix_more}
use Rattle.canvas.proofs.PieceLemmas.{cut_at}
use Rattle.canvas.proofs.ppm.write_pieces.Goals as goal

pub returns-in_err-send-clause-err : goal.returns-in_err-send-clause-err
returns-in_err-send-clause-err g c =
    let p = err_from_is_err_and c.from_residual.result c.from_residual.ensures.1 in
    rw p.1 (sending_prefix_more _ _ c.loop-done.invariant.sending (cut_at (take c.loop-done.filled c.loop-done.piece) _ c.loop-done.done _ c.args.canvas.now.colours c.put_samples-filled.ensures.text) c.in_err-send.ensures.err)

pub loop-done-preserved : goal.loop-done-preserved
loop-done-preserved g c = record {
  short = omega arith;
  within = omega arith;
  sending = sending_more _ _ c.loop-done.invariant.sending (cut_at (take c.loop-done.filled c.loop-done.piece) _ c.loop-done.done _ c.args.canvas.now.colours c.put_samples-filled.ensures.text) c.in_ok-send.ensures.ok;
}

pub returns-clause-err : goal.returns-clause-err
returns-clause-err g c =
    on_err_weaker c.send-2.result (λ f. sending_prefix_more _ _ c.loop-done.invariant.sending refl f) c.send-2.ensures.err
