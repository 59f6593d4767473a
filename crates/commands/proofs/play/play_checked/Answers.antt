-- What was accepted is played, or rejected after the check.
use Rattle.std.proofs.lemmas.Result.{IfErr-weaker, on_ok_weaker}
use Rattle.commands.proofs.FailureLemmas.{is_want, no_output}
use Rattle.commands.proofs.PreparedLemmas.{accepted_opens}
use Rattle.commands.proofs.PlayLemmas.{check_fails, play_done, play_fails}
use Rattle.commands.proofs.play.play_checked.Goals as goal

pub returns-in-Err-clause-failed : goal.returns-in-Err-clause-failed
returns-in-Err-clause-failed g c = check_fails c.args.file.now c.args.certificate.now c.args.asked.width c.args.asked.height c.in-Err.refusal c.failure_of.result (g.O.Write.contents c.args.out.now) c.in-Err.ensures.refusal c.failure_of.ensures

pub returns-clause-done : goal.returns-clause-done
returns-clause-done g c =
    on_ok_weaker c.write_played.result (play_done _ _ c.in-Ok.cleared _ _ c.in-Ok.ensures.accepted c.in-Ok.ensures.opened c.in-Ok.ensures.read c.in-Ok.ensures.rules _ _) c.write_played.ensures.done

pub returns-clause-failed : goal.returns-clause-failed
returns-clause-failed g c =
    IfErr-weaker c.write_played.result _ _
    (λ failure fails. play_fails c.args.file.now c.args.certificate.now c.in-Ok.cleared _ _ c.in-Ok.ensures.accepted c.in-Ok.ensures.opened c.in-Ok.ensures.read c.in-Ok.ensures.rules g.O.Write.contents c.args.out.now c.write_played.new.out failure fails)
    c.write_played.ensures.failed

pub returns-in-Err-clause-memory : goal.returns-in-Err-clause-memory
returns-in-Err-clause-memory g c = λ e. c.in-Err.ensures.memory (is_want c.in-Err.refusal c.failure_of.result c.failure_of.ensures e)

pub returns-clause-memory : goal.returns-clause-memory
returns-clause-memory g c = IfErr-weaker c.write_played.result _ _ (λ failure fails e. accepted_opens _ _ c.in-Ok.ensures.accepted) c.write_played.ensures.failed

pub returns-in-Err-clause-fault : goal.returns-in-Err-clause-fault
returns-in-Err-clause-fault g c = λ e. no_output c.in-Err.refusal c.failure_of.result _ c.failure_of.ensures e
