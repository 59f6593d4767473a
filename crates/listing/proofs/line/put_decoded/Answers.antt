-- What is put is told of the step.
use Rattle.listing.proofs.line.put_decoded.Goals as goal

pub returns-in-Ok-clause-text : goal.returns-in-Ok-clause-text
returns-in-Ok-clause-text c = rw c.in-Ok.is c.put_step.ensures.text
