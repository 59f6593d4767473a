-- How any bytes are framed, as a function.
use Rattle.std.specs.Prelude.{ℕ, zero, suc, Bool, true, false, ◌==◌, List, [], ◌∷◌, Option, Some, None}
use Rattle.draw_ops.specs.Records.{Framing, Record, Framed, IsFramed, framing_fault, kind_of, leading_of, rest_of, record_limit}
use Rattle.draw_ops.specs.declared.record_fault.RecordFault.{RecordFault}
use Rattle.draw_ops.specs.declared.record_fault.RecordFault.TheVariants.{TooManyRecords}

-- no record, but a fault
abbrev pub broken : RecordFault → Framed
broken fault = record { records = []; fault = Some fault; after = [] }

-- only the end record, and the bytes after it
abbrev pub alone : Record → List ℕ → Framed
alone r rest = record { records = r ∷ []; fault = None; after = rest }

-- a record before others
abbrev pub ahead : Record → Framed → Framed
ahead r framed = record { records = r ∷ framed.records; fault = framed.fault; after = framed.after }

-- a record, which is the last if it ends the file, otherwise followed by the rest
abbrev pub from_record : Bool → Record → List ℕ → Framed → Framed
from_record true r rest framed = alone r rest
from_record false r rest framed = ahead r framed

-- a fault, if there is one, instead of the rest
abbrev pub from_fault : Option RecordFault → Framed → Framed
from_fault (Some fault) framed = broken fault
from_fault None framed = framed

-- how bytes are framed from the record with this number on, if at most this many records may follow
abbrev pub framed_from : Framing → ℕ → ℕ → List ℕ → Framed
framed_from f zero number bytes = broken TooManyRecords
framed_from f (suc remaining) number bytes =
    from_fault (framing_fault f number bytes)
    (from_record (kind_of f bytes == f.end_kind) (leading_of f bytes) (rest_of f bytes) (framed_from f remaining (suc number) (rest_of f bytes)))

-- how all of the bytes are framed
unfoldable pub framed_of : Framing → List ℕ → Framed
framed_of f bytes = framed_from f record_limit 0 bytes

-- any bytes are framed as `framed_of` says
abbrev pub FramedByFunction : Type 0
FramedByFunction = (f : Framing) (bytes : List ℕ) → IsFramed f 0 bytes (framed_of f bytes)
