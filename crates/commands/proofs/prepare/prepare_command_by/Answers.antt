-- The way the command ends says what was written and reported, whether the output failed, and that a finished text is
-- flushed.
use Rattle.commands.proofs.FailureLemmas.{done_by, fails_by, holds_by, printed_by, written_by}
use Rattle.commands.proofs.prepare.prepare_command_by.Goals as goal

pub returns-clause-written : goal.returns-clause-written
returns-clause-written g c = written_by _ c.write_prepared-done.result c.ending.result _ _ c.ending.ensures.end c.write_prepared-done.ensures.done c.write_prepared-done.ensures.failed

pub returns-clause-printed : goal.returns-clause-printed
returns-clause-printed g c = printed_by _ c.write_prepared-done.result c.ending.result _ _ _ _ c.ending.ensures.end c.write_prepared-done.ensures.failed c.ending.ensures.printed (λ t. t)

pub returns-clause-memory : goal.returns-clause-memory
returns-clause-memory g c = holds_by c.write_prepared-done.result c.ending.result _ c.ending.ensures.end c.write_prepared-done.ensures.memory

pub returns-clause-cannot_write : goal.returns-clause-cannot_write
returns-clause-cannot_write g c = fails_by c.write_prepared-done.result c.ending.result _ c.ending.ensures.end c.write_prepared-done.ensures.fault

pub returns-clause-flushed : goal.returns-clause-flushed
returns-clause-flushed g c = done_by c.write_prepared-done.result c.ending.result _ c.ending.ensures.end c.write_prepared-done.ensures.flushed
