-- The table's fault is the step's.
use Rattle.std.proofs.Common.{refl}
use Rattle.draw_ops.specs.Objects.{index_of, object_value_of}
use Rattle.dc_stack.proofs.CreationLemmas.{rejects_create}
use Rattle.dc_stack.proofs.machine.Machine.create.Goals as goal

pub returns-in-Err-clause-plays : goal.returns-in-Err-clause-plays
returns-in-Err-clause-plays g c =
    rw (← c.self.view_is) (record {
      rejected = rejects_create (index_of c.args.at) (object_value_of c.args.object) _ c.in-Err.fault c.in-Err.ensures.rejected;
      kept = record { state = rw (c.in-Err.ensures.kept, c.create.ensures.kind) refl; painted = refl; plane_extent = refl; needs = refl };
    })
