-- How often each fault occurs.
use Rattle.std.specs.Prelude.{◌≡◌, ℕ, ◌+◌, ◌*◌, ◌^◌, ◌≤◌, ◌<◌, ◌==◌, List, [], ◌∷◌, ◌++◌, length, Option, Some, None, unwrap_or, count_by, min}
use Rattle.std.specs.BTreeMap.{is_at}
use Rattle.std.specs.List.Sorted.{IsStrictlySortedBy}
use Rattle.std.specs.Map.{keys_of, lookup}
use Rattle.std.specs.Ordering.{nat_cmp}
use Rattle.draw_ops.specs.Fault.{record_kind_of}
use Rattle.draw_ops.specs.FaultTable.{fault_row}
use Rattle.draw_ops.specs.declared.fault.Fault.{Fault}
use Rattle.file_info.specs.declared.fault_count.FaultCount.{FaultCount}

-- a fault's place in reports: by its code, and then by the kind of record that it refers to
abbrev pub fault_key : Fault → ℕ
fault_key fault = (fault_row fault).code * 2 ^ 32 + unwrap_or (record_kind_of fault) 0

-- how many of these faults have a key
abbrev pub occurrences : ℕ → List Fault → ℕ
occurrences key faults = count_by (λ (fault : Fault). fault_key fault == key) faults

-- what is counted under a key is a fault with that key, and how often it occurs
pub record IsCounted (faults : List Fault) (key : ℕ) (counted : FaultCount) : Type 0 where
  pub named : fault_key counted.fault ≡ key
  pub times : counted.count ≡ occurrences key faults
  pub some : 1 ≤ counted.count

-- what is counted under a key, or that nothing is
abbrev pub IsCountAt : List Fault → ℕ → Option FaultCount → Type 0
IsCountAt faults key None = occurrences key faults ≡ 0
IsCountAt faults key (Some counted) = IsCounted faults key counted

-- The entries have each of the faults once, with how often it occurs, in the order of their keys.
pub record CountsFaults (faults : List Fault) (entries : List (ℕ × FaultCount)) : Type 0 where
  pub ascending : IsStrictlySortedBy nat_cmp (keys_of entries)
  pub each : (key : ℕ) → IsCountAt faults key (lookup (is_at (nat_cmp key)) entries)

-- the greatest number of faults that are counted: more than a file has, with its headers' and at most one per record
abbrev pub fault_limit : ℕ
fault_limit = 4294967295

-- the count under the key of one more fault, which stops at the limit
abbrev pub count_with : Option FaultCount → ℕ
count_with None = 1
count_with (Some counted) = min (counted.count + 1) fault_limit

-- if the old counts are those of some faults, fewer than the limit, the new counts are those of these and one more
abbrev pub CountsOneMore : List (ℕ × FaultCount) → Fault → List (ℕ × FaultCount) → Type 0
CountsOneMore old fault new =
    (faults : List Fault) → length faults < fault_limit → CountsFaults faults old → CountsFaults (faults ++ fault ∷ []) new
