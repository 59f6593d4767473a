use Rattle.std.proofs.Common.{sym, ◌∙◌}
use Rattle.object_tables.proofs.StoreLemmas.{first_place, no_place}
use Rattle.object_tables.proofs.store.first_free_or_end.Goals as goal

pub returns-in-Some : goal.returns-in-Some
returns-in-Some c = first_place c.args.places.now c.in-Some.place (sym c.first_free.ensures ∙ c.in-Some.is)

pub returns-in-None : goal.returns-in-None
returns-in-None c = no_place c.args.places.now (sym c.first_free.ensures ∙ c.in-None.is)
