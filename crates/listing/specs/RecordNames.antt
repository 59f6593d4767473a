-- The standard's names of records.
use Rattle.std.specs.Prelude.{ℕ, List, Option}
use Rattle.listing.specs.EmfNames.{emf_name_of}
use Rattle.listing.specs.WmfNames.{wmf_name_of}
use Rattle.meta_headers.specs.declared.opened.FileFormat.{FileFormat}
use Rattle.meta_headers.specs.declared.opened.FileFormat.TheVariants.{Placeable, Plain, Emf}

-- the standard's name of a function or a type in a file of some format, if it has one
abbrev pub record_name : FileFormat → ℕ → Option (List ℕ)
record_name Placeable kind = wmf_name_of kind
record_name Plain kind = wmf_name_of kind
record_name Emf kind = emf_name_of kind
