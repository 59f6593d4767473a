-- The way the command ends says what was written and reported, whether the output failed, and that a finished text is
-- flushed.
use Rattle.commands.proofs.FailureLemmas.{done_by, fails_by, holds_by, printed_by, written_by}
use Rattle.commands.proofs.show.show_command_by.Goals as goal

pub returns-clause-written : goal.returns-clause-written
returns-clause-written g c = written_by _ c.show_file-done.result c.ending.result _ _ c.ending.ensures.end c.show_file-done.ensures.done c.show_file-done.ensures.failed

pub returns-clause-printed : goal.returns-clause-printed
returns-clause-printed g c = printed_by _ c.show_file-done.result c.ending.result _ _ _ _ c.ending.ensures.end c.show_file-done.ensures.failed c.ending.ensures.printed (λ t. t)

pub returns-clause-memory : goal.returns-clause-memory
returns-clause-memory g c = holds_by c.show_file-done.result c.ending.result _ c.ending.ensures.end c.show_file-done.ensures.memory

pub returns-clause-cannot_write : goal.returns-clause-cannot_write
returns-clause-cannot_write g c = fails_by c.show_file-done.result c.ending.result _ c.ending.ensures.end c.show_file-done.ensures.fault

pub returns-clause-flushed : goal.returns-clause-flushed
returns-clause-flushed g c = done_by c.show_file-done.result c.ending.result _ c.ending.ensures.end c.show_file-done.ensures.flushed
