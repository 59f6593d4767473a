-- The steps of records are numbered in order.
use Rattle.std.proofs.Common.{ℕ, suc, Bool, ◌==◌, List, [], ◌∷◌, Option, Result, Ok, Err, refl, sym, subst}
use Rattle.draw_ops.specs.Content.{Content}
use Rattle.draw_ops.specs.Meaning.{Meaning, DecodedValue, step_decoded}
use Rattle.draw_ops.specs.NumberLaws.{AreNumberedFrom, StepsAreNumbered}
use Rattle.draw_ops.specs.RecordContent.{followed, steps_from}
use Rattle.draw_ops.specs.Records.{Framing, Record}
use Rattle.draw_ops.specs.Results.{result_map}
use Rattle.draw_ops.specs.declared.record_fault.RecordFault.{RecordFault}

ahead :
    (is_last : Bool) (after : List ℕ) (number : ℕ) (decoded : Result DecodedValue RecordFault) (rest : Content) → AreNumberedFrom (suc number) rest.steps
    → AreNumberedFrom number (followed (result_map (step_decoded is_last after number) decoded) rest).steps
ahead is_last after number (Ok decoded) rest h = (refl, h)
ahead is_last after number (Err fault) rest h = tt

numbered :
    (f : Framing) (meaning : Meaning) (after : List ℕ) (number : ℕ) (records : List Record) (fault : Option RecordFault)
    → AreNumberedFrom number (steps_from f meaning after number records fault).steps
numbered f meaning after number [] fault = tt
numbered f meaning after number (r ∷ rs) fault =
    ahead (r.kind == f.end_kind) after number (meaning number r) (steps_from f meaning after (suc number) rs fault)
    (numbered f meaning after (suc number) rs fault)

pub steps_are_numbered : StepsAreNumbered
steps_are_numbered f meaning bytes content h =
    subst (λ (it : Content). AreNumberedFrom 0 it.steps) (sym h.decoded) (numbered f meaning h.framed.after 0 h.framed.records h.framed.fault)
