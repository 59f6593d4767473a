-- What the records in some bytes ask for, in order.
use Rattle.std.specs.Prelude.{◌≡◌, ℕ, suc, List, [], ◌∷◌, Option, Result, Ok, Err}
use Rattle.draw_ops.specs.Content.{Content, StepValue, broken_by, with_step}
use Rattle.draw_ops.specs.ExactlyOne.{ExactlyOne}
use Rattle.draw_ops.specs.Meaning.{Meaning, step_of}
use Rattle.draw_ops.specs.Records.{Framing, Record, Framed, IsFramed}
use Rattle.draw_ops.specs.declared.record_fault.RecordFault.{RecordFault}

-- a step before the rest, or the fault at which the steps end
abbrev pub followed : Result StepValue RecordFault → Content → Content
followed (Ok step) content = with_step step content
followed (Err fault) content = broken_by fault

-- what the records mean, from the one with this number on, up to the first fault
abbrev pub steps_from : Framing → Meaning → List ℕ → ℕ → List Record → Option RecordFault → Content
steps_from f meaning after number [] fault = record { steps = []; fault = fault }
steps_from f meaning after number (r ∷ rs) fault = followed (step_of f meaning after number r) (steps_from f meaning after (suc number) rs fault)

-- the content of framed records, the first of which has this number
abbrev pub content_of : Framing → Meaning → ℕ → Framed → Content
content_of f meaning number framed = steps_from f meaning framed.after number framed.records framed.fault

-- the bytes have this content: they are framed in some way, and the content is what these records mean
pub record IsContent (f : Framing) (meaning : Meaning) (bytes : List ℕ) (content : Content) : Type 0 where
  pub framed : Framed
  pub is_framed : IsFramed f 0 bytes framed
  pub decoded : content ≡ content_of f meaning 0 framed

-- any bytes have exactly one content, whatever the framing and the meaning
abbrev pub ContentIsOne : Type 0
ContentIsOne = (f : Framing) (meaning : Meaning) (bytes : List ℕ) → ExactlyOne (IsContent f meaning bytes)
