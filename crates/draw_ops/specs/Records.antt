-- How a file's bytes form records: [MS-WMF] 2.3 and [MS-EMF] 2.3.
use Rattle.std.specs.Prelude.{◌≡◌, ◌≢◌, ℕ, suc, ◌*◌, ◌%◌, Bool, ◌&&◌, not, ◌==◌, nat_lt, nat_le, if◌then◌else◌, List, [], ◌∷◌, length, take, drop, Option, Some, None}
use Rattle.point_views.specs.Numbers.{number_at}
use Rattle.draw_ops.specs.ExactlyOne.{ExactlyOne}
use Rattle.draw_ops.specs.declared.record_fault.RecordFault.{RecordFault}
use Rattle.draw_ops.specs.declared.record_fault.RecordFault.TheVariants.{TooManyRecords, NoEnd, ShortRecord, PastEnd}

-- what differs between the formats: the length of a record's head, the offsets of the size and the kind (its function
-- or type) in it, the unit and the multiple of the size, the length of the kind, and the kind that ends the file
pub record Framing : Type 0 where
  pub head_length : ℕ
  pub size_place : ℕ
  pub unit : ℕ
  pub multiple : ℕ
  pub kind_place : ℕ
  pub kind_length : ℕ
  pub end_kind : ℕ

-- a record: its kind, and its bytes with the head
pub record Record : Type 0 where
  pub kind : ℕ
  pub bytes : List ℕ

-- the most records of a file, including the end record
unfoldable pub record_limit : ℕ
record_limit = 1048576

-- the size in bytes that the head at the start gives
abbrev pub size_of : Framing → List ℕ → ℕ
size_of f bytes = f.unit * number_at bytes f.size_place 4

-- a record may have this size: it includes the head, and is a valid multiple
abbrev pub may_be_size : Framing → ℕ → Bool
may_be_size f size = nat_le f.head_length size && size % f.multiple == 0

-- the kind that the head at the start gives
abbrev pub kind_of : Framing → List ℕ → ℕ
kind_of f bytes = number_at bytes f.kind_place f.kind_length

-- the first record, if it is valid
abbrev pub leading_of : Framing → List ℕ → Record
leading_of f bytes = record { kind = kind_of f bytes; bytes = take (size_of f bytes) bytes }

-- the bytes after the first record
abbrev pub rest_of : Framing → List ℕ → List ℕ
rest_of f bytes = drop (size_of f bytes) bytes

-- what is wrong with the first record, which has this number in the file: the first of these faults
abbrev pub framing_fault : Framing → ℕ → List ℕ → Option RecordFault
framing_fault f number bytes =
    if nat_le record_limit number then Some TooManyRecords
    else (if nat_lt (length bytes) f.head_length then Some NoEnd
    else (if not (may_be_size f (size_of f bytes)) then Some ShortRecord
    else (if nat_lt (length bytes) (size_of f bytes) then Some PastEnd else None)))

-- the bytes begin with this valid record, it ends the file, and these bytes follow it
pub record EndsBy (f : Framing) (number : ℕ) (bytes : List ℕ) (r : Record) (after : List ℕ) : Type 0 where
  pub good : framing_fault f number bytes ≡ None
  pub leading : r ≡ leading_of f bytes
  pub last : r.kind ≡ f.end_kind
  pub after_it : after ≡ rest_of f bytes

-- the bytes begin with this valid record, it doesn't end the file, and this holds for the bytes after it
pub record GoesOnBy (f : Framing) (number : ℕ) (bytes : List ℕ) (r : Record) (holds : Type 0) : Type 0 where
  pub good : framing_fault f number bytes ≡ None
  pub leading : r ≡ leading_of f bytes
  pub not_last : r.kind ≢ f.end_kind
  pub onward : holds

-- The bytes, from the record with this number on, spell these records, and these bytes follow them. Either the first
-- record is valid and ends the file, and it is the only one; or it is valid and doesn't end the file, and the rest of
-- the bytes spells the rest of the list.
abbrev pub Spells : Framing → ℕ → List ℕ → List Record → List ℕ → Type 0
Spells f number bytes [] after = ⊥
Spells f number bytes (r ∷ []) after = EndsBy f number bytes r after
Spells f number bytes (r ∷ s ∷ rs) after = GoesOnBy f number bytes r (Spells f (suc number) (rest_of f bytes) (s ∷ rs) after)

-- The bytes, from the record with this number on, begin with these valid records without an end, and the record after
-- them has this fault.
abbrev pub Broken : Framing → ℕ → List ℕ → List Record → RecordFault → Type 0
Broken f number bytes [] fault = framing_fault f number bytes ≡ Some fault
Broken f number bytes (r ∷ rs) fault = GoesOnBy f number bytes r (Broken f (suc number) (rest_of f bytes) rs fault)

-- the records in some bytes, the fault after them, if there is one, and the bytes after the end record
pub record Framed : Type 0 where
  pub records : List Record
  pub fault : Option RecordFault
  pub after : List ℕ

-- the bytes break, so none follow an end record
pub record BreaksBy (f : Framing) (number : ℕ) (bytes : List ℕ) (records : List Record) (fault : RecordFault) (after : List ℕ) : Type 0 where
  pub broken : Broken f number bytes records fault
  pub none_after : after ≡ []

-- without a fault the bytes spell records, and with one they break
abbrev pub IsSpelledOrBroken : Framing → ℕ → List ℕ → List Record → Option RecordFault → List ℕ → Type 0
IsSpelledOrBroken f number bytes records None after = Spells f number bytes records after
IsSpelledOrBroken f number bytes records (Some fault) after = BreaksBy f number bytes records fault after

-- the bytes, from the record with this number on, are framed in this way
abbrev pub IsFramed : Framing → ℕ → List ℕ → Framed → Type 0
IsFramed f number bytes framed = IsSpelledOrBroken f number bytes framed.records framed.fault framed.after

-- Any bytes are framed in exactly one way: they spell one list of records, or break after one list with one fault, and
-- never both.
abbrev pub FramedInOneWay : Type 0
FramedInOneWay = (f : Framing) (bytes : List ℕ) → ExactlyOne (IsFramed f 0 bytes)
