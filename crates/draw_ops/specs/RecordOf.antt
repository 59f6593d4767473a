-- The values of records and of decoded records.
use Rattle.draw_ops.specs.Meaning.{DecodedValue}
use Rattle.draw_ops.specs.NoteSet.{notes_in}
use Rattle.draw_ops.specs.OperationOf.{operation_of}
use Rattle.draw_ops.specs.Records.{Record}
use Rattle.draw_ops.specs.declared.format.Decoded.{Decoded}
use Rattle.draw_ops.specs.declared.format.RawRecord.{RawRecord}

-- a record's kind and its bytes
abbrev pub record_of : RawRecord → Record
record_of r = record { kind = r.kind; bytes = r.bytes.now }

-- a decoded record's operation and its notes
abbrev pub decoded_of : Decoded → DecodedValue
decoded_of decoded = record { operation = operation_of decoded.op; notes = notes_in decoded.notes }
