-- A file has no more steps than it may have records.
use Rattle.std.proofs.Common.{◌≡◌, ℕ, suc, ◌+◌, ◌<◌, ◌≤◌, Bool, true, false, cond, List, [], ◌∷◌, length, Option, Some, None, Result, Ok, Err, refl, ap, arith}
use Rattle.std.specs.Prelude.{nat_le}
use Rattle.std.proofs.lemmas.Bool.{leb-false}
use Rattle.draw_ops.specs.Content.{Content, StepValue}
use Rattle.draw_ops.specs.Meaning.{Meaning, step_of}
use Rattle.draw_ops.specs.RecordContent.{IsContent, followed, steps_from}
use Rattle.draw_ops.specs.Records.{Broken, Framing, IsSpelledOrBroken, Record, Spells, framing_fault, record_limit, rest_of}
use Rattle.draw_ops.specs.declared.record_fault.RecordFault.{RecordFault}
use Rattle.draw_ops.specs.declared.record_fault.RecordFault.TheVariants.{TooManyRecords}

by_limit : (number : ℕ) (other : Option RecordFault) (test : Bool) → nat_le record_limit number ≡ test → cond test (Some TooManyRecords) other ≡ None → number < record_limit
by_limit number other true e h = absurd (cc)
by_limit number other false e h = leb-false record_limit number e

-- a record without a fault has a number that is allowed
below : (f : Framing) (number : ℕ) (bytes : List ℕ) → framing_fault f number bytes ≡ None → number < record_limit
below f number bytes h = by_limit number _ (nat_le record_limit number) refl h

few_spelled : (f : Framing) (number : ℕ) (bytes : List ℕ) (records : List Record) (after : List ℕ) → Spells f number bytes records after → number + length records ≤ record_limit
few_spelled f number bytes [] after h = absurd h
few_spelled f number bytes (r ∷ []) after h = let one = below f number bytes h.good in omega (arith, one)
few_spelled f number bytes (r ∷ s ∷ rs) after h = let rest = few_spelled f (suc number) (rest_of f bytes) (s ∷ rs) after h.onward in omega (arith, rest)

few_broken : (f : Framing) (number : ℕ) (bytes : List ℕ) (records : List Record) (fault : RecordFault) → number ≤ record_limit → Broken f number bytes records fault → number + length records ≤ record_limit
few_broken f number bytes [] fault start h = omega (arith, start)
few_broken f number bytes (r ∷ rs) fault start h =
    let one = below f number bytes h.good in
    let rest = few_broken f (suc number) (rest_of f bytes) rs fault (omega (arith, one)) h.onward in omega (arith, rest)

few_records : (f : Framing) (bytes : List ℕ) (records : List Record) (fault : Option RecordFault) (after : List ℕ) → IsSpelledOrBroken f 0 bytes records fault after → length records ≤ record_limit
few_records f bytes records None after h = let few = few_spelled f 0 bytes records after h in omega (arith, few)
few_records f bytes records (Some fault) after h = let few = few_broken f 0 bytes records fault (omega arith) h.broken in omega (arith, few)

-- each record has at most one step
one_more : (first : Result StepValue RecordFault) (rest : Content) (n : ℕ) → length rest.steps ≤ n → length (followed first rest).steps ≤ suc n
one_more (Ok step) rest n h = omega (arith, h)
one_more (Err fault) rest n h = omega arith

fewer : (f : Framing) (meaning : Meaning) (after : List ℕ) (number : ℕ) (records : List Record) (fault : Option RecordFault) → length (steps_from f meaning after number records fault).steps ≤ length records
fewer f meaning after number [] fault = omega arith
fewer f meaning after number (r ∷ rs) fault =
    one_more (step_of f meaning after number r) (steps_from f meaning after (suc number) rs fault) (length rs) (fewer f meaning after (suc number) rs fault)

pub few_steps : (f : Framing) (meaning : Meaning) (bytes : List ℕ) (content : Content) → IsContent f meaning bytes content → length content.steps ≤ record_limit
few_steps f meaning bytes content h =
    let k = h.framed in
    let size : length content.steps ≡ length (steps_from f meaning k.after 0 k.records k.fault).steps = ap (λ (it : Content). length it.steps) h.decoded in
    let steps = fewer f meaning k.after 0 k.records k.fault in
    let records = few_records f bytes k.records k.fault k.after h.is_framed in
    omega (arith, size, steps, records)
