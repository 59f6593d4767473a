-- How what is left to a walk is framed, by the record in front.
use Rattle.std.proofs.Common.{◌≡◌, ℕ, zero, suc, ◌+◌, ◌-◌, ◌<◌, ◌≤◌, Bool, true, false, List, Some, None, eqb, refl, sym, ap, ◌∙◌, arith, add-one}
use Rattle.std.proofs.lemmas.Bool.{eq-eqb, le-leb}
use Rattle.draw_ops.specs.Framed.{broken, framed_from, framed_of, ahead}
use Rattle.draw_ops.specs.Records.{Framed, Framing, Record, framing_fault, leading_of, record_limit, rest_of}
use Rattle.listing.specs.WalkState.{framed_left}
use Rattle.draw_ops.specs.declared.record_fault.RecordFault.{RecordFault}

some_same : {one other : RecordFault} → Some one ≡ Some other → one ≡ other
some_same e = cc

-- the record in front has a fault
by_remaining : (f : Framing) (capacity number : ℕ) (bytes : List ℕ) (fault : RecordFault) → capacity ≡ record_limit - number → framing_fault f number bytes ≡ Some fault → framed_from f capacity number bytes ≡ broken fault
by_remaining f zero number bytes fault e h =
    let full : record_limit ≤ number = omega (arith, e) in
    ap broken (some_same (rw (le-leb record_limit number full) at h))
by_remaining f (suc capacity) number bytes fault e h = rw h refl

pub fault_ahead : (f : Framing) (number : ℕ) (bytes : List ℕ) (fault : RecordFault) → framing_fault f number bytes ≡ Some fault → framed_left f false number bytes ≡ broken fault
fault_ahead f number bytes fault h = by_remaining f (record_limit - number) number bytes fault refl h

-- the record in front has none
module _ (f : Framing) (number : ℕ) (bytes : List ℕ) (r : Record) (after : List ℕ) (below : number < record_limit) (good : framing_fault f number bytes ≡ None) (leading : r ≡ leading_of f bytes) (rest : after ≡ rest_of f bytes) where
  pub record_ahead : (b : Bool) → eqb r.kind f.end_kind ≡ b → framed_left f false number bytes ≡ ahead r (framed_left f b (number + 1) after)
  record_ahead true last =
      let capacity : record_limit - number ≡ suc (record_limit - suc number) = omega arith in
      let same = ap (λ (q : Record). eqb q.kind f.end_kind) (sym leading) ∙ last in
      rw (capacity, good, same, leading, rest) refl
  record_ahead false last =
      let capacity : record_limit - number ≡ suc (record_limit - suc number) = omega arith in
      let same = ap (λ (q : Record). eqb q.kind f.end_kind) (sym leading) ∙ last in
      rw (capacity, good, same, leading, rest, add-one) refl

  -- what lies behind it, where it ends the file, lies behind the records
  pub after_end : r.kind ≡ f.end_kind → after ≡ (framed_left f false number bytes).after
  after_end last = sym (ap (λ (d : Framed). d.after) (record_ahead true (eq-eqb _ _ last)))

-- all bytes are left at the start
pub all_left : (f : Framing) (bytes : List ℕ) → framed_left f false 0 bytes ≡ framed_of f bytes
unfolding framed_of
all_left f bytes = let all : record_limit - 0 ≡ record_limit = omega arith in rw all refl
