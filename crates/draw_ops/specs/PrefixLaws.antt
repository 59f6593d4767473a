-- What remains of records that were cut short.
use Rattle.std.specs.Prelude.{◌≡◌, ℕ, ◌+◌, ◌<◌, ◌≤◌, ◌⊎◌, List, ◌++◌, length, take}
use Rattle.draw_ops.specs.Records.{Broken, Framing, Record, Spells}
use Rattle.draw_ops.specs.declared.record_fault.RecordFault.{RecordFault}
use Rattle.draw_ops.specs.declared.record_fault.RecordFault.TheVariants.{NoEnd, PastEnd}

-- a record's head contains its size and its kind
pub record HoldsItsFields (f : Framing) : Type 0 where
  pub size : f.size_place + 4 ≤ f.head_length
  pub kind : f.kind_place + f.kind_length ≤ f.head_length

-- Bytes were cut short, from the record with this number on: they break after the first of these records, because the
-- end is missing or a record is incomplete.
pub record IsCutShort (f : Framing) (number : ℕ) (bytes : List ℕ) (records : List Record) : Type 0 where
  pub first : List Record
  pub later : List Record
  pub fault : RecordFault
  pub in_order : records ≡ first ++ later
  pub broken : Broken f number bytes first fault
  pub by_the_end : fault ≡ NoEnd ⊎ fault ≡ PastEnd

-- If bytes spell records, each prefix that ends before the last record is cut short.
abbrev pub PrefixesAreCutShort : Type 0
PrefixesAreCutShort =
    (f : Framing) (bytes after : List ℕ) (records : List Record) (n : ℕ) → HoldsItsFields f → Spells f 0 bytes records after
    → n + length after < length bytes → IsCutShort f 0 (take n bytes) records
