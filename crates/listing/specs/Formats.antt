-- Where the records of a file begin.
use Rattle.std.specs.Prelude.{ℕ}
use Rattle.meta_headers.specs.declared.opened.FileFormat.{FileFormat}
use Rattle.meta_headers.specs.declared.opened.FileFormat.TheVariants.{Placeable, Plain, Emf}

-- the offset of record 0
abbrev pub first_place : FileFormat → ℕ
first_place Placeable = 40
first_place Plain = 18
first_place Emf = 0
