-- For a valid size, the rejection is that of the run.
use Rattle.commands.proofs.PreparedLemmas.{run_rejected}
use Rattle.commands.proofs.preparing.prepare_file.Goals as goal

pub returns-in-Err-clause-refusal : goal.returns-in-Err-clause-refusal
returns-in-Err-clause-refusal c = run_rejected _ _ _ _ c.requires.wide c.requires.high c.in-Err.refusal c.in-Err.ensures.refusal

pub returns-in-Err-clause-memory : goal.returns-in-Err-clause-memory
returns-in-Err-clause-memory c = λ e. (c.in-Err.ensures.memory e).opens
