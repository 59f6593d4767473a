-- If the file was played, the surface is within the bound; otherwise it is rejected for its size, or because an
-- allocation failed.
use Rattle.commands.proofs.PlayLemmas.{surface_rejected, within_where_done}
use Rattle.commands.proofs.over.play_over.Goals as goal

pub returns-in-Ok-clause-within : goal.returns-in-Ok-clause-within
returns-in-Ok-clause-within c = within_where_done _ _ _ c.play.result c.play.ensures.too_large c.in-Ok.field-0 c.in-Ok.is

pub returns-in-Err-clause-refusal : goal.returns-in-Err-clause-refusal
returns-in-Err-clause-refusal c = surface_rejected _ _ _ c.play.result c.in-Err.fault c.in-Err.is c.play.ensures.too_large c.in-Err.ensures.refusal
