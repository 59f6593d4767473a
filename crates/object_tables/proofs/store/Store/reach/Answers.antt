-- The places that are added are free.
use Rattle.std.proofs.Common.{◌+◌, rules}
use Rattle.object_tables.proofs.StoreLemmas.{longer, same_slots}
use Rattle.object_tables.proofs.store.Store.reach.Goals as goal
use Rattle.object_tables.proofs.store.Store.reach.Goals.{in-Ok, in-Err}

pub returns-clause-slots : goal.returns-clause-slots
returns-clause-slots c = elim c.match-resize.branch [
  | in-Ok w ↦ rw (← c.self.view_is, w.in-Ok.ensures.items) (longer c.self.inside.places.items (c.args.index + 1) _ (search rules))
  | in-Err w ↦ rw (← c.self.view_is, w.in-Err.ensures.items) (same_slots c.self.inside.places.items)
]
