-- The records of a file, each with its number and its offset.
use Rattle.std.specs.Prelude.{◌≡◌, ℕ, ◌+◌, List, ◌∷◌, ◌++◌, length, take, drop, Some}
use Rattle.std.specs.List.{flat_map}
use Rattle.draw_ops.specs.Records.{Record}
use Rattle.draw_ops.specs.declared.record_fault.RecordFault.{RecordFault}
use Rattle.meta_headers.specs.Formats.{format_of}
use Rattle.meta_headers.specs.declared.opened.FileFormat.{FileFormat}
use Rattle.listing.specs.Formats.{first_place}
use Rattle.listing.specs.Listing.{framed_records}

-- the bytes of these records, one after another
abbrev pub bytes_of : List Record → List ℕ
bytes_of records = flat_map (λ (r : Record). r.bytes) records

-- the offset in a file of this format after its first records, which are these
abbrev pub place_after : FileFormat → List Record → ℕ
place_after format records = first_place format + length (bytes_of records)

-- this record of the file, framed by the file's own format, has this number and begins at this offset
pub record HasRecord (file : List ℕ) (format : FileFormat) (number place : ℕ) (r : Record) : Type 0 where
  pub of_format : format_of file ≡ Some format
  pub before : List Record
  pub after : List Record
  pub framed : (framed_records format file).records ≡ before ++ r ∷ after
  pub count : length before ≡ number
  pub begins : place ≡ place_after format before
  pub there : take (length r.bytes) (drop place file) ≡ r.bytes

-- the bytes of the file break by this fault after this many records, at this offset
pub record BreaksAt (file : List ℕ) (format : FileFormat) (number place : ℕ) (fault : RecordFault) : Type 0 where
  pub of_format : format_of file ≡ Some format
  pub broken : (framed_records format file).fault ≡ Some fault
  pub count : length (framed_records format file).records ≡ number
  pub begins : place ≡ place_after format (framed_records format file).records
