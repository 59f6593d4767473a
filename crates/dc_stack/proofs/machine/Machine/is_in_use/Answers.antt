use Rattle.std.proofs.Common.{◌∙◌}
use Rattle.dc_stack.specs.Selecting.{selects}
use Rattle.dc_stack.specs.State.{DcValue}
use Rattle.dc_stack.specs.Values.{dc_value}
use Rattle.dc_stack.proofs.BoxLemmas.{any_map}
use Rattle.dc_stack.proofs.machine.Machine.is_in_use.Goals as goal

pub returns-else-has : goal.returns-else-has
returns-else-has g c =
    let in_saved = rw c.as_slice.ensures.value at c.any_has.ensures in
    rw (← c.self.view_is, ← c.if-has.ensures) (in_saved ∙ any_map dc_value (λ (dc : DcValue). selects c.args.handle.0 dc.selected) c.self.inside.saved.items)
