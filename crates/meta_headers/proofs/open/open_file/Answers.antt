-- The records of a placeable file are those of its format.
use Rattle.std.proofs.Common.{◌≡◌, ℕ, List, Result, Ok, Err, sym, ap, ◌∙◌}
use Rattle.std.specs.Prelude.{IfOk}
use Rattle.draw_ops.specs.declared.fault.Fault.{Fault}
use Rattle.meta_headers.specs.Opening.{record_bytes}
use Rattle.meta_headers.specs.declared.opened.FileFormat.{FileFormat}
use Rattle.meta_headers.specs.declared.opened.FileFormat.TheVariants.{Placeable}
use Rattle.meta_headers.specs.declared.opened.Opened.{Opened}
use Rattle.meta_headers.proofs.open.open_file.Goals as goal

of_format : (file : List ℕ) (format : FileFormat) (result : Result Opened Fault) → IfOk result (λ o. o.format ≡ format)
    → IfOk result (λ o. o.records.now ≡ record_bytes format file) → IfOk result (λ o. o.records.now ≡ record_bytes o.format file)
of_format file format (Ok o) is records = records ∙ sym (ap (λ (f : FileFormat). record_bytes f file) is)
of_format file format (Err fault) is records = tt

pub returns-then-is_placeable-clause-records : goal.returns-then-is_placeable-clause-records
returns-then-is_placeable-clause-records c =
    of_format c.args.file.now Placeable c.open_placeable.result c.open_placeable.ensures.format c.open_placeable.ensures.records
