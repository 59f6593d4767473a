-- What was copied is the name.
use Rattle.std.proofs.Common.{sym, subst}
use Rattle.buffer_calls.specs.FaultNames.{IsNameOf}
use Rattle.buffer_calls.proofs.EndLemmas.{copied_text}
use Rattle.buffer_calls.proofs.fault_names.copy_fault_name.Goals as goal

pub returns-in-Some : goal.returns-in-Some
returns-in-Some c =
    copied_text (IsNameOf c.args.code) c.as_bytes.result.now c.args.out.now c.copy_text.new.out c.copy_text.result
    (subst (IsNameOf c.args.code) (sym c.as_bytes.ensures.value) c.in-Some.ensures.name) c.copy_text.ensures
