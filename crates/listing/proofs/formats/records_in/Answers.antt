-- Of a file that ends before its first record there is no byte.
use Rattle.std.proofs.Common.{◌≡◌, ℕ, ◌<◌, List, [], length, sym, arith, rules}
use Rattle.std.proofs.lemmas.List.{drop_all}
use Rattle.meta_headers.specs.Opening.{record_bytes}
use Rattle.meta_headers.specs.declared.opened.FileFormat.{FileFormat}
use Rattle.meta_headers.specs.declared.opened.FileFormat.TheVariants.{Placeable, Plain, Emf}
use Rattle.listing.specs.Formats.{first_place}
use Rattle.listing.proofs.formats.records_in.Goals as goal

none_there : (format : FileFormat) (file : List ℕ) → length file < first_place format → [] ≡ record_bytes format file
none_there Placeable file short = sym (drop_all 40 file (omega arith))
none_there Plain file short = sym (drop_all 18 file (omega arith))
none_there Emf file short = absurd (omega arith)

pub returns-then-file-place : goal.returns-then-file-place
returns-then-file-place c = none_there c.args.format c.args.file.now (search rules)
