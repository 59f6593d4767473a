-- What is found is the first free place.
use Rattle.std.proofs.Common.{◌∙◌}
use Rattle.object_tables.proofs.StoreLemmas.{fewer, full, least, least_is_free, taken_within}
use Rattle.object_tables.proofs.store.Store.lowest_free.Goals as goal

pub returns-clause-value : goal.returns-clause-value
returns-clause-value c =
    let found = rw c.as_slice.ensures.value at c.first_free_or_end.ensures in
    rw (← c.self.view_is) (found ∙ least c.self.inside.places.items)

pub returns-clause-free : goal.returns-clause-free
returns-clause-free c =
    let found = rw c.as_slice.ensures.value at c.first_free_or_end.ensures in
    rw (← c.self.view_is, found) (least_is_free c.self.inside.places.items)

pub returns-clause-within : goal.returns-clause-within
returns-clause-within c =
    let found = rw c.as_slice.ensures.value at c.first_free_or_end.ensures in
    rw (← c.self.view_is, found) (taken_within c.self.inside.places.items)

pub returns-clause-full : goal.returns-clause-full
returns-clause-full c =
    let found = rw c.as_slice.ensures.value at c.first_free_or_end.ensures in
    rw (← c.self.view_is, found) (full c.self.inside.places.items)

pub returns-clause-not_full : goal.returns-clause-not_full
returns-clause-not_full c =
    let found = rw c.as_slice.ensures.value at c.first_free_or_end.ensures in
    rw (← c.self.view_is, found) (fewer c.self.inside.places.items)
