-- The way the command ends says what was reported, and that the certificate is stored.
use Rattle.commands.proofs.FailureLemmas.{done_by, printed_for}
use Rattle.commands.proofs.prepare.prepare_to_file.Goals as goal

pub returns-clause-stored : goal.returns-clause-stored
returns-clause-stored g c = done_by c.store_prepared-stored.result c.ending.result _ c.ending.ensures.end c.store_prepared-stored.ensures.stored

pub returns-clause-printed : goal.returns-clause-printed
returns-clause-printed g c = printed_for _ c.store_prepared-stored.result c.ending.result _ _ c.ending.ensures.end c.store_prepared-stored.ensures.failed c.ending.ensures.printed (λ t. t)
