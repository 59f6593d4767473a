-- Bitmaps in bytes: DeviceIndependentBitmap, [MS-WMF] 2.2.2.9.
use Rattle.std.specs.Prelude.{nat_lt, if◌then◌else◌, ℕ, List, length, drop, take, slice_range, Result, Ok, Err}
use Rattle.dib_views.specs.declared.fault.DibFault.{DibFault}
use Rattle.dib_views.specs.declared.fault.DibFault.TheVariants.{ShortDib}
use Rattle.dib_views.specs.declared.header.DibHead.{DibHead}
use Rattle.dib_views.specs.Headers.{dib_head}
use Rattle.dib_views.specs.Pictures.{Dib}
use Rattle.dib_views.specs.Pixels.{StoredDib, rows_size, stored_picture}
use Rattle.dib_views.specs.Results.{result_map}

-- the value of a stored bitmap
abbrev pub stored_dib : StoredDib → Dib
stored_dib dib = record { picture = stored_picture dib; order = dib.shape.order }

-- the stored bitmap of a header, with its table in the first bytes and its rows in the second
abbrev pub parts_by : DibHead → List ℕ → List ℕ → Result StoredDib DibFault
parts_by head info bits =
    if nat_lt (length info) head.table_end then Err ShortDib
    else (if nat_lt (length bits) (rows_size head.shape) then Err ShortDib
    else Ok (record { shape = head.shape; table = slice_range info head.table_start head.table_end; rows = take (rows_size head.shape) bits }))

-- the stored bitmap of a header, or the header's fault, with table and rows in separate bytes
abbrev pub parts_from : Result DibHead DibFault → List ℕ → List ℕ → Result StoredDib DibFault
parts_from (Ok head) info bits = parts_by head info bits
parts_from (Err fault) info bits = Err fault

-- the stored bitmap of a header, or the header's fault, with the rows after the table
abbrev pub packed_from : Result DibHead DibFault → List ℕ → Result StoredDib DibFault
packed_from (Ok head) bytes = parts_by head bytes (drop head.table_end bytes)
packed_from (Err fault) bytes = Err fault

-- a bitmap whose rows follow its header and its table, as it is stored, or its first fault
abbrev pub packed_stored : List ℕ → Result StoredDib DibFault
packed_stored bytes = packed_from (dib_head bytes) bytes

-- a bitmap whose header and table are separate from its rows, as it is stored, or its first fault
abbrev pub parts_stored : List ℕ → List ℕ → Result StoredDib DibFault
parts_stored info bits = parts_from (dib_head info) info bits

-- a bitmap whose rows follow its header and its table, or its first fault
abbrev pub packed_dib : List ℕ → Result Dib DibFault
packed_dib bytes = result_map stored_dib (packed_stored bytes)

-- a bitmap whose header and table are separate from its rows, or its first fault
abbrev pub parts_dib : List ℕ → List ℕ → Result Dib DibFault
parts_dib info bits = result_map stored_dib (parts_stored info bits)
