-- A rejection is that of the file's run.
use Rattle.commands.proofs.FailureLemmas.{is_want, kept, no_output, refusal_fails}
use Rattle.commands.specs.Tasks.{prepare}
use Rattle.commands.proofs.prepare.write_prepared.Goals as goal

pub returns-in-Err-clause-failed : goal.returns-in-Err-clause-failed
returns-in-Err-clause-failed g c = refusal_fails (prepare c.args.rules c.args.file.now c.args.width c.args.height) c.in-Err.refusal c.failure_of.result (g.O.Write.contents c.args.out.now) c.in-Err.ensures.refusal (kept _) c.failure_of.ensures

pub returns-in-Err-clause-memory : goal.returns-in-Err-clause-memory
returns-in-Err-clause-memory g c = λ e. c.in-Err.ensures.memory (is_want c.in-Err.refusal c.failure_of.result c.failure_of.ensures e)

pub returns-in-Err-clause-fault : goal.returns-in-Err-clause-fault
returns-in-Err-clause-fault g c = λ e. no_output c.in-Err.refusal c.failure_of.result _ c.failure_of.ensures e
