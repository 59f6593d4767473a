-- What a task writes for the bytes that were read is what its command line writes.
use Rattle.std.proofs.Common.{rules}
use Rattle.commands.proofs.LineLemmas.{err_of_task, err_unread, out_of_task, out_unread, task_is_other, unread_done, unread_failed, unread_rejected, unread_same}
use Rattle.commands.proofs.program.perform.Goals as goal

pub returns-in-Ok-clause-written : goal.returns-in-Ok-clause-written
returns-in-Ok-clause-written g c =
    out_of_task c.args.asked.line _ _ _ _ c.in-Ok.ensures.read _ _ _ c.run_task.result.end _ _ c.run_task.ensures.written c.run_task.ensures.printed

pub returns-in-Ok-clause-printed : goal.returns-in-Ok-clause-printed
returns-in-Ok-clause-printed g c =
    err_of_task c.args.asked.line _ _ _ _ c.in-Ok.ensures.read _ _ _ c.run_task.result.end c.run_task.ensures.printed

pub returns-in-Err-clause-written : goal.returns-in-Err-clause-written
returns-in-Err-clause-written g c = out_unread c.args.asked.line _ c.in-Err.fault _ _ _ c.no_input.ensures.end (search rules)

pub returns-in-Err-clause-printed : goal.returns-in-Err-clause-printed
returns-in-Err-clause-printed g c = err_unread c.args.asked.line _ c.in-Err.fault _ _ _ _ c.no_input.ensures.end c.no_input.ensures.line

pub returns-in-Err-clause-failed : goal.returns-in-Err-clause-failed
returns-in-Err-clause-failed g c = unread_failed c.in-Err.fault _ _ c.no_input.ensures.end

pub returns-in-Err-clause-flushed : goal.returns-in-Err-clause-flushed
returns-in-Err-clause-flushed g c = unread_done c.in-Err.fault _ _ c.no_input.ensures.end

pub returns-in-Err-clause-rejected : goal.returns-in-Err-clause-rejected
returns-in-Err-clause-rejected g c = unread_rejected c.in-Err.fault _ _ c.no_input.ensures.end

pub returns-in-Err-clause-same : goal.returns-in-Err-clause-same
returns-in-Err-clause-same g c = (λ same. unread_same c.in-Err.fault _ _ c.no_input.ensures.end same, λ is. absurd cc)

pub returns-in-Ok-clause-same : goal.returns-in-Ok-clause-same
returns-in-Ok-clause-same g c = (λ same. task_is_other _ c.run_task.result.end _ _ _ _ c.run_task.ensures.printed same, λ is. absurd cc)
