use Rattle.std.proofs.Common.{◌≡◌, true, false, length, nat_lt, refl, rules, sym, ◌∙◌}
use Rattle.dc_stack.specs.Clip.{cut_limit}
use Rattle.dc_stack.specs.Values.{clip_value}
use Rattle.dc_stack.proofs.FaultOrder.{or_none}
use Rattle.dc_stack.proofs.machine.Machine.exclude_clip.Goals as goal

pub returns-in-Ok-clause-plays : goal.returns-in-Ok-clause-plays
returns-in-Ok-clause-plays g c =
    let few : nat_lt (length (clip_value c.self.inside.dc.clip).cuts) cut_limit ≡ true = search rules in
    rw (← c.self.view_is) (record {
      stepped = record { no_fault = rw few (or_none _ ∙ sym c.in-Ok.ensures.fault); state = rw (c.cut.ensures.plane, c.in-Ok.ensures.plane) refl; needs = search rules };
      drawn = refl;
      placed = tt;
      nib = tt;
      extent = c.in-Ok.ensures.extent;
      figures = λ (e : false ≡ true). cc;
    })
