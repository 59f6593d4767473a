use Rattle.std.proofs.Common.{ap, rules, sym, ◌∙◌}
use Rattle.std.specs.Option.{option_map}
use Rattle.draw_ops.specs.Objects.{object_value_of}
use Rattle.object_tables.proofs.StoreLemmas.{at_place, in_order, past_end}
use Rattle.object_tables.proofs.store.Store.at.Goals as goal

pub returns-then-index-len-clause-object : goal.returns-then-index-len-clause-object
returns-then-index-len-clause-object c = rw (← c.self.view_is) (ap (option_map object_value_of) c.index.ensures ∙ sym (at_place c.self.inside.places.items c.args.index c.index.result.now (search rules)))

pub returns-then-index-len-clause-in_order : goal.returns-then-index-len-clause-in_order
returns-then-index-len-clause-in_order c = rw (← c.self.view_is) (in_order 0 c.self.inside.places.items)

pub returns-else-index-len-clause-object : goal.returns-else-index-len-clause-object
returns-else-index-len-clause-object c = rw (← c.self.view_is) (sym (past_end c.self.inside.places.items c.args.index (search rules)))

pub returns-else-index-len-clause-in_order : goal.returns-else-index-len-clause-in_order
returns-else-index-len-clause-in_order c = rw (← c.self.view_is) (in_order 0 c.self.inside.places.items)
