-- A rejection is that of the file's run, and what was prepared is played: the surface is within the bound that it was
-- prepared for.
use Rattle.std.proofs.lemmas.Result.{IfErr-weaker, on_ok_weaker}
use Rattle.commands.proofs.FailureLemmas.{is_want, kept, no_output, refusal_fails}
use Rattle.commands.proofs.PlayLemmas.{show_done, show_fails}
use Rattle.commands.proofs.PreparedLemmas.{accepted_opens, prepared_within}
use Rattle.commands.specs.Tasks.{show}
use Rattle.commands.proofs.show.show_file.Goals as goal

pub returns-in-Err-clause-failed : goal.returns-in-Err-clause-failed
returns-in-Err-clause-failed g c = refusal_fails (show c.args.rules c.args.file.now c.args.width c.args.height) c.in-Err.refusal c.failure_of.result (g.O.Write.contents c.args.out.now) c.in-Err.ensures.refusal (kept _) c.failure_of.ensures

pub returns-in-Err-clause-memory : goal.returns-in-Err-clause-memory
returns-in-Err-clause-memory g c = λ e. c.in-Err.ensures.memory (is_want c.in-Err.refusal c.failure_of.result c.failure_of.ensures e)

pub returns-clause-done : goal.returns-clause-done
returns-clause-done g c =
    on_ok_weaker c.write_played.result
    (show_done c.args.rules _ c.clear.result _ _ (rw c.clear.ensures.opened c.in-Ok.ensures.opened) (rw c.clear.ensures.opened c.in-Ok.ensures.rules)
    (c.opening_law.ensures.again c.args.rules c.args.file.now) g.O.Write.contents _ _)
    c.write_played.ensures.done

pub returns-clause-failed : goal.returns-clause-failed
returns-clause-failed g c =
    let within = prepared_within c.args.width c.args.height c.clear.result.certificate (c.in-Ok.ensures.sides _ c.clear.ensures.read) in
    IfErr-weaker c.write_played.result _ _
    (λ failure fails. show_fails c.args.rules _ c.clear.result _ _ (rw c.clear.ensures.opened c.in-Ok.ensures.opened) (rw c.clear.ensures.opened c.in-Ok.ensures.rules)
    (c.opening_law.ensures.again c.args.rules c.args.file.now) g.O.Write.contents c.args.out.now c.write_played.new.out failure within fails)
    c.write_played.ensures.failed

pub returns-clause-memory : goal.returns-clause-memory
returns-clause-memory g c = IfErr-weaker c.write_played.result _ _ (λ failure fails e. (accepted_opens c.args.file.now c.in-Ok.prepared.text.items c.in-Ok.ensures.accepted).opens) c.write_played.ensures.failed

pub returns-in-Err-clause-fault : goal.returns-in-Err-clause-fault
returns-in-Err-clause-fault g c = λ e. no_output c.in-Err.refusal c.failure_of.result _ c.failure_of.ensures e
