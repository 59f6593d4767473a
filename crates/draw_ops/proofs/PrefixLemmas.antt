-- A front of records is cut short.
use Rattle.std.proofs.Common.{◌≡◌, ℕ, zero, suc, ◌+◌, ◌-◌, ◌*◌, ◌%◌, ◌==◌, ◌<◌, ◌≤◌, Bool, true, false, not, nat_le, nat_lt, if◌then◌else◌, List, [], ◌∷◌, length, take, drop, Some, None, inl, inr, refl, sym, ap, subst, ◌∙◌, arith}
use Rattle.std.proofs.lemmas.Bool.{and_parts, cases_lt, le-ltb, leb-true, lt-ltb}
use Rattle.std.proofs.lemmas.List.{drop-take, length-drop, length-take-le}
use Rattle.point_views.specs.NumberLaws.{ReadsWithinPrefix}
use Rattle.draw_ops.specs.PrefixLaws.{PrefixesAreCutShort, HoldsItsFields, IsCutShort}
use Rattle.draw_ops.specs.Records.{Broken, Framing, Record, Spells, framing_fault, leading_of, kind_of, may_be_size, record_limit, rest_of, size_of}
use Rattle.draw_ops.specs.declared.record_fault.RecordFault.TheVariants.{TooManyRecords, NoEnd, ShortRecord, PastEnd}

-- the first bytes of a front that has them
take_of_prefix : (i n : ℕ) (xs : List ℕ) → i ≤ n → take i (take n xs) ≡ take i xs
take_of_prefix zero n xs h = refl
take_of_prefix (suc i) zero xs h = absurd (omega (arith, h))
take_of_prefix (suc i) (suc n) [] h = refl
take_of_prefix (suc i) (suc n) (x ∷ xs) h = ap (λ (l : List ℕ). x ∷ l) (take_of_prefix i n xs (omega (arith, h)))

-- the tests of a good record
record IsGood (f : Framing) (number : ℕ) (bytes : List ℕ) : Type 0 where
  few : nat_le record_limit number ≡ false
  headed : nat_lt (length bytes) f.head_length ≡ false
  sized : may_be_size f (size_of f bytes) ≡ true
  whole : nat_lt (length bytes) (size_of f bytes) ≡ false

tests_of : (a b c d : Bool) → (if a then Some TooManyRecords else (if b then Some NoEnd else (if not c then Some ShortRecord else (if d then Some PastEnd else None)))) ≡ None → (a ≡ false) × (b ≡ false) × (c ≡ true) × (d ≡ false)
tests_of true b c d h = cc
tests_of false true c d h = cc
tests_of false false false d h = cc
tests_of false false true true h = cc
tests_of false false true false h = (refl, refl, refl, refl)

is_good : (f : Framing) (number : ℕ) (bytes : List ℕ) → framing_fault f number bytes ≡ None → IsGood f number bytes
is_good f number bytes h =
    let tests = tests_of (nat_le record_limit number) (nat_lt (length bytes) f.head_length) (may_be_size f (size_of f bytes)) (nat_lt (length bytes) (size_of f bytes)) h in
    record { few = tests.0; headed = tests.1; sized = tests.2; whole = tests.3 }

module _ (reads : ReadsWithinPrefix) (f : Framing) (own : HoldsItsFields f) where
  same_size : (bytes : List ℕ) (n : ℕ) → f.head_length ≤ n → size_of f (take n bytes) ≡ size_of f bytes
  same_size bytes n h = let there = own.size in ap (λ (s : ℕ). f.unit * s) (reads bytes f.size_place 4 n (omega (arith, there, h)))

  same_kind : (bytes : List ℕ) (n : ℕ) → f.head_length ≤ n → kind_of f (take n bytes) ≡ kind_of f bytes
  same_kind bytes n h = let there = own.kind in reads bytes f.kind_place f.kind_length n (omega (arith, there, h))

  module _ (number n : ℕ) (bytes : List ℕ) (good : IsGood f number bytes) (short : n ≤ length bytes) where
    long : length (take n bytes) ≡ n
    long = length-take-le n bytes short

    no_end : n < f.head_length → framing_fault f number (take n bytes) ≡ Some NoEnd
    no_end h = rw (good.few, long, lt-ltb n f.head_length h) refl

    past_end : f.head_length ≤ n → n < size_of f bytes → framing_fault f number (take n bytes) ≡ Some PastEnd
    past_end h k = rw (good.few, long, le-ltb n f.head_length h, same_size bytes n h, good.sized, lt-ltb n (size_of f bytes) k) refl

    still_good : f.head_length ≤ n → size_of f bytes ≤ n → framing_fault f number (take n bytes) ≡ None
    still_good h k = rw (good.few, long, le-ltb n f.head_length h, same_size bytes n h, good.sized, le-ltb n (size_of f bytes) k) refl

    -- the record in front isn't whole
    cut_there : (records : List Record) → n < size_of f bytes → IsCutShort f number (take n bytes) records
    cut_there records k = elim (cases_lt n f.head_length) [
      | inl below ↦ record { first = []; later = records; fault = NoEnd; in_order = refl; broken = no_end below; by_the_end = inl refl }
      | inr above ↦ record { first = []; later = records; fault = PastEnd; in_order = refl; broken = past_end above k; by_the_end = inr refl }
    ]

  -- what lies behind the record in front is cut
  cut_rest : (bytes : List ℕ) (n : ℕ) → f.head_length ≤ n → size_of f bytes ≤ n → rest_of f (take n bytes) ≡ take (n - size_of f bytes) (rest_of f bytes)
  cut_rest bytes n h k =
      let size = size_of f bytes in
      let parts : n ≡ size + (n - size) = omega arith in
      ap (λ (s : ℕ). drop s (take n bytes)) (same_size bytes n h) ∙ ap (λ (m : ℕ). drop size (take m bytes)) parts ∙ drop-take size (n - size) bytes

  same_leading : (bytes : List ℕ) (n : ℕ) → f.head_length ≤ n → size_of f bytes ≤ n → leading_of f (take n bytes) ≡ leading_of f bytes
  same_leading bytes n h k =
      ap (λ (kind : ℕ). record { kind = kind; bytes = take (size_of f (take n bytes)) (take n bytes) }) (same_kind bytes n h)
      ∙ ap (λ (s : ℕ). record { kind = kind_of f bytes; bytes = take s (take n bytes) }) (same_size bytes n h)
      ∙ ap (λ (b : List ℕ). record { kind = kind_of f bytes; bytes = b }) (take_of_prefix (size_of f bytes) n bytes k)

  pub cut_short :
      (records : List Record) (number n : ℕ) (bytes after : List ℕ) → Spells f number bytes records after → n + length after < length bytes
      → IsCutShort f number (take n bytes) records
  cut_short [] number n bytes after h short = absurd h
  cut_short (r ∷ []) number n bytes after h short =
      let left : length after ≡ length bytes - size_of f bytes = ap length h.after_it ∙ length-drop (size_of f bytes) bytes in
      let good = is_good f number bytes h.good in
      cut_there number n bytes good (omega (arith, short)) (r ∷ []) (omega (arith, left, short))
  cut_short (r ∷ s ∷ rs) number n bytes after h short =
      let size = size_of f bytes in
      let good = is_good f number bytes h.good in
      let within : n ≤ length bytes = omega (arith, short) in
      let left : length (rest_of f bytes) ≡ length bytes - size = length-drop size bytes in
      elim (cases_lt n size) [
        | inl below ↦ cut_there number n bytes good within (r ∷ s ∷ rs) below
        | inr above ↦
            let has_head = leb-true f.head_length size (and_parts (nat_le f.head_length size) (size % f.multiple == 0) good.sized).0 in
            let headed : f.head_length ≤ n = omega (arith, has_head, above) in
            let later = cut_short (s ∷ rs) (suc number) (n - size) (rest_of f bytes) after h.onward (omega (arith, left, short, above)) in
            record {
              first = r ∷ later.first;
              later = later.later;
              fault = later.fault;
              in_order = ap (λ (l : List Record). r ∷ l) later.in_order;
              broken = record {
                good = still_good number n bytes good within headed above;
                leading = h.leading ∙ sym (same_leading bytes n headed above);
                not_last = h.not_last;
                onward = subst (λ (rest : List ℕ). Broken f (suc number) rest later.first later.fault) (sym (cut_rest bytes n headed above)) later.broken;
              };
              by_the_end = later.by_the_end;
            }
      ]

pub prefixes_are_cut_short : ReadsWithinPrefix → PrefixesAreCutShort
prefixes_are_cut_short reads f bytes after records n own h short = cut_short reads f own records 0 n bytes after h short
