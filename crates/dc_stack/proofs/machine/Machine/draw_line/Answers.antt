use Rattle.std.proofs.Common.{ap}
use Rattle.dc_stack.specs.MachineState.{MachineState}
use Rattle.dc_stack.specs.State.{with_position}
use Rattle.dc_stack.proofs.machine.Machine.draw_line.Goals as goal

pub returns-in-Ok-clause-draws : goal.returns-in-Ok-clause-draws
returns-in-Ok-clause-draws g c =
    let start = ap (λ (m : MachineState). m.state.dc.position) c.draw_pair.view_is in
    let drawn = rw (← c.self.view_is, start) at c.in-Ok.ensures.draws in
    record {
      no_fault = drawn.no_fault;
      state = ap (with_position c.args.point) drawn.state;
      needs = drawn.needs;
      drawn = drawn.drawn;
      placed = drawn.placed;
      nib = drawn.nib;
      apart = drawn.apart;
      extent = drawn.extent;
    }
