-- Opening a file: its format, frame, initial map and handle count, or the first fault.
use Rattle.std.specs.Prelude.{ℕ, if◌then◌else◌, List, drop, Result, Err}
use Rattle.mapping.specs.Surface.{Surface}
use Rattle.draw_ops.specs.Content.{Content}
use Rattle.draw_ops.specs.Meaning.{Meaning}
use Rattle.draw_ops.specs.RecordContent.{IsContent}
use Rattle.draw_ops.specs.Records.{Framing}
use Rattle.draw_ops.specs.declared.fault.Fault.{Fault}
use Rattle.draw_ops.specs.declared.fault.Fault.TheVariants.{TooLong, NotMetafile}
use Rattle.emf_records.specs.Emf.{emf_meaning}
use Rattle.emf_records.specs.Framing.{emf_framing}
use Rattle.meta_headers.specs.EmfHeader.{emf_file, is_emf}
use Rattle.meta_headers.specs.Headers.{OpenedValue, is_too_long}
use Rattle.meta_headers.specs.PlaceableHeader.{is_placeable, placeable_file}
use Rattle.meta_headers.specs.PlainHeader.{is_plain, plain_file}
use Rattle.meta_headers.specs.declared.opened.FileFormat.{FileFormat}
use Rattle.meta_headers.specs.declared.opened.FileFormat.TheVariants.{Placeable, Plain, Emf}
use Rattle.wmf_records.specs.Framing.{wmf_framing}
use Rattle.wmf_records.specs.Wmf.{wmf_meaning}

-- the result of opening a file: a fault if it is too long or has none of the three formats, otherwise the result for
-- its format
unfoldable pub opened : List ℕ → Result OpenedValue Fault
opened file =
    if is_too_long file then Err TooLong
    else (if is_placeable file then placeable_file file
    else (if is_emf file then emf_file file
    else (if is_plain file then plain_file file else Err NotMetafile)))

-- the framing of a format's records
abbrev pub framing_of : FileFormat → Framing
framing_of Placeable = wmf_framing
framing_of Plain = wmf_framing
framing_of Emf = emf_framing

-- what each record of a format means
abbrev pub meaning_of : FileFormat → Meaning
meaning_of Placeable = wmf_meaning
meaning_of Plain = wmf_meaning
meaning_of Emf = emf_meaning

-- the bytes from record 0 on: those after the headers; in EMF the header is record 0
abbrev pub record_bytes : FileFormat → List ℕ → List ℕ
record_bytes Placeable file = drop 40 file
record_bytes Plain file = drop 18 file
record_bytes Emf file = file

-- the bytes from record 0 on have this content
abbrev pub HasContentOf : FileFormat → List ℕ → Content → Type 0
HasContentOf format records content = IsContent (framing_of format) (meaning_of format) records content

-- the surface of this size that shows an opened file's fine frame
abbrev pub surface_for : OpenedValue → ℕ → ℕ → Surface
surface_for o width height = record { width = width; height = height; frame_width = o.fine_width; frame_height = o.fine_height }
