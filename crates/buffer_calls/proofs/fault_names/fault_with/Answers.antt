-- The list has the faults by their codes, from 1 on.
use Rattle.std.proofs.Common.{◌≡◌, ◌+◌, ◌-◌, ◌∙◌, arith, refl}
use Rattle.draw_ops.specs.declared.fault.Fault.TheVariants.{TooLong}
use Rattle.buffer_calls.specs.declared.fault_names.TheConstants.{FAULTS}
use Rattle.buffer_calls.proofs.FaultLemmas.{code_at}
use Rattle.buffer_calls.proofs.fault_names.fault_with.Goals as goal

pub returns : goal.returns
returns c =
    let same : 1 + (c.args.code - 1) ≡ c.args.code = omega arith in
    code_at FAULTS 1 (c.args.code - 1) TooLong refl (omega arith) ∙ same
