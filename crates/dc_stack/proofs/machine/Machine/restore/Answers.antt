use Rattle.std.proofs.Common.{◌≡◌, false, true, refl, rules, sym, ◌∙◌}
use Rattle.dc_stack.proofs.SavedLemmas.{may_restore, restored}
use Rattle.dc_stack.proofs.machine.Machine.restore.Goals as goal

pub returns-clause-plays : goal.returns-clause-plays
returns-clause-plays g c =
    let items = c.self.inside.saved.items in
    let count = c.len.ensures ∙ c.self.inside.saved.ok.0 in
    let named = sym c.in-Some.is ∙ c.place_of.ensures.place in
    rw (← c.self.view_is) (record {
      stepped = record {
        no_fault = rw (may_restore items c.args.which.0 c.len.result c.in-Some.place count named) refl;
        state = restored items c.truncate.new.self.items c.args.which.0 c.len.result c.in-Some.place c.index.result.now _ refl count named c.in-Some.ensures.within c.index.ensures c.truncate.ensures.items;
        needs = search rules;
      };
      drawn = refl;
      placed = tt;
      nib = tt;
      extent = refl;
      figures = λ (e : false ≡ true). cc;
    })
