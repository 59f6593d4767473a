use Rattle.std.proofs.Common.{rules}
use Rattle.object_tables.proofs.StoreLemmas.{emptied}
use Rattle.object_tables.proofs.store.Store.remove.Goals as goal

pub returns-clause-removed : goal.returns-clause-removed
returns-clause-removed c = rw (← c.self.view_is) (emptied c.self.inside.places.items c.args.handle.0 (search rules))
