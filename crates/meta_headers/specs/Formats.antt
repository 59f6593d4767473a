-- The formats of metafiles: how files begin, and the formats' names.
use Rattle.std.specs.Prelude.{ℕ, if◌then◌else◌, List, Option, Some, None, codes}
use Rattle.meta_headers.specs.EmfHeader.{is_emf}
use Rattle.meta_headers.specs.PlaceableHeader.{is_placeable}
use Rattle.meta_headers.specs.PlainHeader.{is_plain}
use Rattle.meta_headers.specs.declared.opened.FileFormat.{FileFormat}
use Rattle.meta_headers.specs.declared.opened.FileFormat.TheVariants.{Placeable, Plain, Emf}

-- the format of a file by its first bytes, whatever its headers say
abbrev pub format_of : List ℕ → Option FileFormat
format_of file =
    if is_placeable file then Some Placeable
    else (if is_emf file then Some Emf
    else (if is_plain file then Some Plain else None))

-- the name of a format
abbrev pub format_name : FileFormat → List ℕ
format_name Placeable = codes "placeable"
format_name Plain = codes "wmf"
format_name Emf = codes "emf"
