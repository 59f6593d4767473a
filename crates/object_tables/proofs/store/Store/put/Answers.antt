use Rattle.std.proofs.Common.{rules}
use Rattle.object_tables.proofs.StoreLemmas.{filled}
use Rattle.object_tables.proofs.store.Store.put.Goals as goal

pub returns-clause-put : goal.returns-clause-put
returns-clause-put c =
    let free = rw (← c.in_ok-reach.ensures.slots, ← c.self.view_is) at c.requires.free in
    rw (← c.in_ok-reach.ensures.slots, ← c.self.view_is) (filled c.self.inside.places.items c.args.index c.args.object (search rules) free)
