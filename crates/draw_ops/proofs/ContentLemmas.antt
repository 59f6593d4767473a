-- What a source has left is the content of its bytes.
use Rattle.std.proofs.Common.{◌≡◌, ℕ, zero, suc, ◌-◌, ◌≤◌, Bool, true, false, List, length, Option, Some, None, Result, Ok, Err, eqb, cond, refl, sym, ap, ◌∙◌, arith}
use Rattle.draw_ops.specs.declared.record_fault.RecordFault.{RecordFault}
use Rattle.draw_ops.specs.Content.{Content, StepValue, nothing_left}
use Rattle.draw_ops.specs.Meaning.{Meaning, DecodedValue, step_decoded}
use Rattle.draw_ops.specs.Reading.{content_from, leading_step, first_then}
use Rattle.draw_ops.specs.RecordContent.{IsContent, ContentIsOne, content_of}
use Rattle.draw_ops.specs.Records.{Framing, Framed, framing_fault, kind_of, leading_of, rest_of, record_limit}
use Rattle.draw_ops.specs.Results.{result_map, result_unless}
use Rattle.draw_ops.specs.Framed.{framed_from, from_fault, from_record}
use Rattle.draw_ops.proofs.FramedLemmas.{is_framed, only_way, too_many}

-- the record in front by its meaning, and whether it ends the file
by_meaning : (f : Framing) (meaning : Meaning) (number : ℕ) (bytes : List ℕ) (m : Result DecodedValue RecordFault) (b : Bool) (rest : Content) (framed : Framed) → meaning number (leading_of f bytes) ≡ m → eqb (kind_of f bytes) f.end_kind ≡ b → rest ≡ content_of f meaning (suc number) framed → first_then f bytes (result_map (step_decoded b (rest_of f bytes) number) m) rest ≡ content_of f meaning number (from_record b (leading_of f bytes) (rest_of f bytes) framed)
by_meaning f meaning number bytes (Err fault) true rest framed p q e = rw p refl
by_meaning f meaning number bytes (Err fault) false rest framed p q e = rw p refl
by_meaning f meaning number bytes (Ok decoded) true rest framed p q e = rw (p, q) refl
by_meaning f meaning number bytes (Ok decoded) false rest framed p q e = rw (p, q, e) refl

by_fault : (f : Framing) (meaning : Meaning) (number : ℕ) (bytes : List ℕ) (o : Option RecordFault) (first : Result StepValue RecordFault) (rest : Content) (framed : Framed) → first_then f bytes first rest ≡ content_of f meaning number framed → first_then f bytes (result_unless o first) rest ≡ content_of f meaning number (from_fault o framed)
by_fault f meaning number bytes None first rest framed e = e
by_fault f meaning number bytes (Some fault) first rest framed e = refl

pub content_is : (f : Framing) (meaning : Meaning) (remaining number : ℕ) (bytes : List ℕ) → content_from f meaning remaining number bytes ≡ content_of f meaning number (framed_from f remaining number bytes)
content_is f meaning zero number bytes = refl
content_is f meaning (suc remaining) number bytes =
    by_fault f meaning number bytes (framing_fault f number bytes) _ _ _ (by_meaning f meaning number bytes _ _ _ _ refl refl (content_is f meaning remaining (suc number) (rest_of f bytes)))

pub whole_content : (f : Framing) (meaning : Meaning) (bytes : List ℕ) → IsContent f meaning bytes (content_from f meaning record_limit 0 bytes)
whole_content f meaning bytes = record {
  framed = framed_from f record_limit 0 bytes;
  is_framed = is_framed f record_limit 0 bytes (omega arith);
  decoded = content_is f meaning record_limit 0 bytes;
}

-- the bytes have no other content
no_other : (f : Framing) (meaning : Meaning) (bytes : List ℕ) (other : Content) → IsContent f meaning bytes other → other ≡ content_from f meaning record_limit 0 bytes
no_other f meaning bytes other h =
    let same = only_way f record_limit 0 bytes (omega arith) h.framed.records h.framed.fault h.framed.after h.is_framed in
    h.decoded ∙ ap (content_of f meaning 0) same ∙ sym (content_is f meaning record_limit 0 bytes)

pub one_content : ContentIsOne
one_content f meaning bytes = record {
  value = content_from f meaning record_limit 0 bytes;
  holds = whole_content f meaning bytes;
  only = no_other f meaning bytes;
}

-- one record further on
stepped : (f : Framing) (meaning : Meaning) (remaining number : ℕ) (bytes : List ℕ) → number ≤ record_limit → remaining ≡ record_limit - number → content_from f meaning remaining number bytes ≡ first_then f bytes (leading_step f meaning number bytes) (content_from f meaning (record_limit - suc number) (suc number) (rest_of f bytes))
stepped f meaning zero number bytes h e = let full = too_many f number bytes (omega arith) in rw full refl
stepped f meaning (suc remaining) number bytes h e = let next : remaining ≡ record_limit - suc number = omega arith in rw next refl

pub content_step : (f : Framing) (meaning : Meaning) (number : ℕ) (bytes : List ℕ) → number ≤ record_limit → content_from f meaning (record_limit - number) number bytes ≡ first_then f bytes (leading_step f meaning number bytes) (content_from f meaning (record_limit - suc number) (suc number) (rest_of f bytes))
content_step f meaning number bytes h = stepped f meaning (record_limit - number) number bytes h refl

-- there are no more steps than room
short_cond : (b : Bool) (rest : Content) (remaining : ℕ) → length rest.steps ≤ remaining → length (cond b nothing_left rest).steps ≤ remaining
short_cond true rest remaining h = omega arith
short_cond false rest remaining h = h

short_first : (f : Framing) (bytes : List ℕ) (first : Result StepValue RecordFault) (rest : Content) (remaining : ℕ) → length rest.steps ≤ remaining → length (first_then f bytes first rest).steps ≤ suc remaining
short_first f bytes (Err fault) rest remaining h = omega arith
short_first f bytes (Ok first) rest remaining h = let shorter = short_cond (eqb (kind_of f bytes) f.end_kind) rest remaining h in omega arith

pub content_short : (f : Framing) (meaning : Meaning) (remaining number : ℕ) (bytes : List ℕ) → length (content_from f meaning remaining number bytes).steps ≤ remaining
content_short f meaning zero number bytes = omega arith
content_short f meaning (suc remaining) number bytes =
    short_first f bytes (leading_step f meaning number bytes) _ remaining (content_short f meaning remaining (suc number) (rest_of f bytes))
