-- One more fault is counted.
use Rattle.std.proofs.Common.{◌≡◌, ◌+◌, ◌<◌, ℕ, Bool, true, false, cond, List, [], ◌∷◌, ◌++◌, length, Option, Some, None, refl, ap, subst, arith, eqb, nat_lt}
use Rattle.std.specs.BTreeMap.{is_at}
use Rattle.std.specs.List.Sorted.{IsStrictlySortedBy}
use Rattle.std.specs.Map.{keys_of, lookup}
use Rattle.std.specs.Ordering.{nat_cmp}
use Rattle.std.proofs.lemmas.Bool.{eq-eqb, eqb-true}
use Rattle.std.proofs.lemmas.Bool.Decides.{nat_tests}
use Rattle.std.proofs.lemmas.List.Sums.{count_by-le-length, sum_by_push}
use Rattle.draw_ops.specs.declared.fault.Fault.{Fault}
use Rattle.file_info.specs.FaultCounts.{CountsOneMore, IsCountAt, IsCounted, count_with, fault_key, fault_limit, occurrences}
use Rattle.file_info.specs.declared.fault_count.FaultCount.{FaultCount}

-- a key is at its own place, and at no other
is_at_self : (key : ℕ) → is_at (nat_cmp key) key ≡ true
is_at_self key =
    let same = eq-eqb key key refl in
    let least : nat_lt key key ≡ false = grind (arith, nat_tests) in
    rw (least, same) refl

is_at_other : (key other : ℕ) → eqb key other ≡ false → is_at (nat_cmp key) other ≡ false
is_at_other key other apart = go (nat_lt key other) refl
  where
    go : (less : Bool) → nat_lt key other ≡ less → is_at (nat_cmp key) other ≡ false
    go true is = rw is refl
    go false is = rw (is, apart) refl

-- a fault occurs once more under its key
one_more : (key : ℕ) (faults : List Fault) (fault : Fault) → occurrences key (faults ++ fault ∷ []) ≡ occurrences key faults + cond (eqb (fault_key fault) key) 1 0
one_more key faults fault = sum_by_push (λ (it : Fault). cond (eqb (fault_key it) key) 1 0) faults fault

module _ (faults : List Fault) (few : length faults < fault_limit) (fault : Fault) where
  own_more : occurrences (fault_key fault) (faults ++ fault ∷ []) ≡ occurrences (fault_key fault) faults + 1
  own_more = let more = one_more (fault_key fault) faults fault in rw (eq-eqb (fault_key fault) (fault_key fault) refl) at more

  -- under its own key
  own : (old : Option FaultCount) (new : FaultCount) → IsCountAt faults (fault_key fault) old → new.fault ≡ fault → new.count ≡ count_with old → IsCounted (faults ++ fault ∷ []) (fault_key fault) new
  own None new none is count =
      let more = own_more in
      record { named = ap fault_key is; times = omega (arith, more, none, count); some = omega (arith, count) }
  own (Some counted) new one is count =
      let more = own_more in
      let times = one.times in
      let some = one.some in
      let most = count_by-le-length (λ (it : Fault). eqb (fault_key it) (fault_key fault)) faults in
      record { named = ap fault_key is; times = omega (arith, more, times, count, most, few); some = omega (arith, count, some) }

  -- under another key
  other : (key : ℕ) (old : Option FaultCount) → eqb (fault_key fault) key ≡ false → IsCountAt faults key old → IsCountAt (faults ++ fault ∷ []) key old
  other key None apart none =
      let once = one_more key faults fault in
      let more : occurrences key (faults ++ fault ∷ []) ≡ occurrences key faults + 0 = rw apart at once in
      omega (arith, more, none)
  other key (Some counted) apart one =
      let once = one_more key faults fault in
      let more : occurrences key (faults ++ fault ∷ []) ≡ occurrences key faults + 0 = rw apart at once in
      let times = one.times in
      record { named = one.named; times = omega (arith, more, times); some = one.some }

  -- under each key
  each_key : (old new : List (ℕ × FaultCount)) (counted : FaultCount) → ((key : ℕ) → IsCountAt faults key (lookup (is_at (nat_cmp key)) old))
      → ((key : ℕ) → lookup (is_at (nat_cmp key)) new ≡ cond (is_at (nat_cmp (fault_key fault)) key) (Some counted) (lookup (is_at (nat_cmp key)) old))
      → counted.fault ≡ fault → counted.count ≡ count_with (lookup (is_at (nat_cmp (fault_key fault))) old)
      → (key : ℕ) → IsCountAt (faults ++ fault ∷ []) key (lookup (is_at (nat_cmp key)) new)
  each_key old new counted counts updates is count key = go (eqb (fault_key fault) key) refl
    where
      at_own : IsCountAt (faults ++ fault ∷ []) (fault_key fault) (lookup (is_at (nat_cmp (fault_key fault))) new)
      at_own =
          let now = updates (fault_key fault) in
          let found : lookup (is_at (nat_cmp (fault_key fault))) new ≡ Some counted = rw (is_at_self (fault_key fault)) at now in
          rw found (own (lookup (is_at (nat_cmp (fault_key fault))) old) counted (counts (fault_key fault)) is count)

      go : (same : Bool) → eqb (fault_key fault) key ≡ same → IsCountAt (faults ++ fault ∷ []) key (lookup (is_at (nat_cmp key)) new)
      go true here =
          let e : fault_key fault ≡ key = eqb-true _ _ here in
          subst (λ (k : ℕ). IsCountAt (faults ++ fault ∷ []) k (lookup (is_at (nat_cmp k)) new)) e at_own
      go false apart =
          let now = updates key in
          let found : lookup (is_at (nat_cmp key)) new ≡ lookup (is_at (nat_cmp key)) old = rw (is_at_other (fault_key fault) key apart) at now in
          rw found (other key (lookup (is_at (nat_cmp key)) old) apart (counts key))

-- counts of any faults become counts of these and one more
pub counts_one_more : (fault : Fault) (old new : List (ℕ × FaultCount)) (counted : FaultCount) → IsStrictlySortedBy nat_cmp (keys_of new)
    → ((key : ℕ) → lookup (is_at (nat_cmp key)) new ≡ cond (is_at (nat_cmp (fault_key fault)) key) (Some counted) (lookup (is_at (nat_cmp key)) old))
    → counted.fault ≡ fault → counted.count ≡ count_with (lookup (is_at (nat_cmp (fault_key fault))) old) → CountsOneMore old fault new
counts_one_more fault old new counted ascending updates is count faults few counts =
    record { ascending = ascending; each = each_key faults few fault old new counted counts.each updates is count }
