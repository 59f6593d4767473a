-- Any bytes are framed in one way.
use Rattle.std.proofs.Common.{◌≡◌, ◌≢◌, ℕ, zero, suc, ◌+◌, ◌≤◌, Bool, true, false, List, [], ◌∷◌, Option, Some, None, eqb, refl, sym, ap, ◌∙◌, arith}
use Rattle.std.proofs.lemmas.Bool.{eqb-true, eqb-false, le-leb, eq-eqb, ne_eqb}
use Rattle.draw_ops.specs.Framed.{ahead, from_record, from_fault, framed_from, framed_of, FramedByFunction}
use Rattle.draw_ops.specs.declared.record_fault.RecordFault.{RecordFault}
use Rattle.draw_ops.specs.declared.record_fault.RecordFault.TheVariants.{TooManyRecords}
use Rattle.draw_ops.specs.Records.{Framing, Record, Framed, IsFramed, IsSpelledOrBroken, FramedInOneWay, framing_fault, kind_of, leading_of, rest_of, record_limit}

-- at the limit there are too many records, whatever comes
pub too_many : (f : Framing) (number : ℕ) (bytes : List ℕ) → record_limit ≤ number → framing_fault f number bytes ≡ Some TooManyRecords
too_many f number bytes h = rw (le-leb record_limit number h) refl

-- a record in front of framed bytes
put_ahead : (f : Framing) (number : ℕ) (bytes : List ℕ) (records : List Record) (fault : Option RecordFault) (after : List ℕ) → framing_fault f number bytes ≡ None → kind_of f bytes ≢ f.end_kind → IsSpelledOrBroken f (suc number) (rest_of f bytes) records fault after → IsSpelledOrBroken f number bytes (leading_of f bytes ∷ records) fault after
put_ahead f number bytes [] None after good ne h = absurd h
put_ahead f number bytes (s ∷ rs) None after good ne h = record { good = good; leading = refl; not_last = ne; onward = h }
put_ahead f number bytes records (Some fault) after good ne h =
    record { broken = record { good = good; leading = refl; not_last = ne; onward = h.broken }; none_after = h.none_after }

-- the bytes are framed as `framed_from` says
framed_last : (f : Framing) (number : ℕ) (bytes : List ℕ) (framed : Framed) (b : Bool) → eqb (kind_of f bytes) f.end_kind ≡ b → framing_fault f number bytes ≡ None → IsFramed f (suc number) (rest_of f bytes) framed → IsFramed f number bytes (from_record b (leading_of f bytes) (rest_of f bytes) framed)
framed_last f number bytes framed true e good h = record { good = good; leading = refl; last = eqb-true _ _ e; after_it = refl }
framed_last f number bytes framed false e good h = put_ahead f number bytes framed.records framed.fault framed.after good (eqb-false _ _ e) h

framed_fault : (f : Framing) (number : ℕ) (bytes : List ℕ) (framed : Framed) (o : Option RecordFault) → framing_fault f number bytes ≡ o → (o ≡ None → IsFramed f number bytes framed) → IsFramed f number bytes (from_fault o framed)
framed_fault f number bytes framed None e h = h refl
framed_fault f number bytes framed (Some fault) e h = record { broken = e; none_after = refl }

pub is_framed : (f : Framing) (remaining number : ℕ) (bytes : List ℕ) → remaining + number ≡ record_limit → IsFramed f number bytes (framed_from f remaining number bytes)
is_framed f zero number bytes e = record { broken = too_many f number bytes (omega arith); none_after = refl }
is_framed f (suc remaining) number bytes e =
    framed_fault f number bytes _ _ refl (λ good. framed_last f number bytes _ _ refl good (is_framed f remaining (suc number) (rest_of f bytes) (omega arith)))

-- and in no other way
some_none : {fault : RecordFault} → Some fault ≡ None → ⊥
some_none e = cc

-- at the limit no record stands in front
full : (f : Framing) (number : ℕ) (bytes : List ℕ) → zero + number ≡ record_limit → framing_fault f number bytes ≡ None → ⊥
full f number bytes e good = some_none (sym (too_many f number bytes (omega arith)) ∙ good)

pub only_way : (f : Framing) (remaining number : ℕ) (bytes : List ℕ) → remaining + number ≡ record_limit → (records : List Record) (fault : Option RecordFault) (after : List ℕ) → IsSpelledOrBroken f number bytes records fault after → record { records = records; fault = fault; after = after } ≡ framed_from f remaining number bytes
only_way f remaining number bytes e [] None after h = absurd h
only_way f zero number bytes e (r ∷ []) None after h = absurd (full f number bytes e h.good)
only_way f zero number bytes e (r ∷ s ∷ rs) None after h = absurd (full f number bytes e h.good)
only_way f zero number bytes e [] (Some x) after h =
    let many = too_many f number bytes (omega arith) in
    rw h.none_after (ap (λ (o : Option RecordFault). record { records = []; fault = o; after = [] }) (sym h.broken ∙ many))
only_way f zero number bytes e (r ∷ rs) (Some x) after h = absurd (full f number bytes e h.broken.good)
only_way f (suc remaining) number bytes e [] (Some x) after h = rw (h.broken, h.none_after) refl
only_way f (suc remaining) number bytes e (r ∷ []) None after h =
    let last = eq-eqb _ _ (sym (ap (λ (q : Record). q.kind) h.leading) ∙ h.last) in rw (h.good, last, h.leading, h.after_it) refl
only_way f (suc remaining) number bytes e (r ∷ s ∷ rs) None after h =
    let goes_on = ne_eqb _ _ (λ p. h.not_last (ap (λ (q : Record). q.kind) h.leading ∙ p)) in
    let rest = only_way f remaining (suc number) (rest_of f bytes) (omega arith) (s ∷ rs) None after h.onward in
    rw (h.good, goes_on, h.leading) (ap (ahead (leading_of f bytes)) rest)
only_way f (suc remaining) number bytes e (r ∷ rs) (Some x) after h =
    let goes_on = ne_eqb _ _ (λ p. h.broken.not_last (ap (λ (q : Record). q.kind) h.broken.leading ∙ p)) in
    let rest = only_way f remaining (suc number) (rest_of f bytes) (omega arith) rs (Some x) after (record { broken = h.broken.onward; none_after = h.none_after }) in
    rw (h.broken.good, goes_on, h.broken.leading) (ap (ahead (leading_of f bytes)) rest)

pub one_way : FramedInOneWay
one_way f bytes = record {
  value = framed_from f record_limit 0 bytes;
  holds = is_framed f record_limit 0 bytes (omega arith);
  only = λ other h. only_way f record_limit 0 bytes (omega arith) other.records other.fault other.after h;
}

pub by_function : FramedByFunction
unfolding framed_of
by_function f bytes = is_framed f record_limit 0 bytes (omega arith)
