-- What the words write is what some command line writes.
use Rattle.commands.proofs.LineLemmas.{err_of_asked, holds_of_some, out_of_asked}
use Rattle.commands.proofs.program.run.Goals as goal

pub returns-in-Ok-true-clause-written : goal.returns-in-Ok-true-clause-written
returns-in-Ok-true-clause-written g c = out_of_asked _ _ _ c.run_words.result.end _ _ c.run_words.ensures.written

pub returns-in-Ok-true-clause-printed : goal.returns-in-Ok-true-clause-printed
returns-in-Ok-true-clause-printed g c = err_of_asked _ _ c.run_words.result.end _ _ _ c.run_words.ensures.printed

pub returns-in-Ok-true-clause-cannot_write : goal.returns-in-Ok-true-clause-cannot_write
returns-in-Ok-true-clause-cannot_write g c = λ e. holds_of_some _ _ _ _ (c.run_words.ensures.cannot_write e)

pub returns-in-Ok-true-clause-flushed : goal.returns-in-Ok-true-clause-flushed
returns-in-Ok-true-clause-flushed g c = λ e. holds_of_some _ _ _ _ (c.run_words.ensures.flushed e)

pub returns-in-Ok-true-clause-rejected : goal.returns-in-Ok-true-clause-rejected
returns-in-Ok-true-clause-rejected g c = λ e. holds_of_some _ _ _ _ (c.run_words.ensures.rejected e)
