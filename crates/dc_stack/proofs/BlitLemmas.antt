-- What a blit without a fault can read.
use Rattle.std.proofs.Common.{◌≡◌, ℕ, Bool, true, false, cond, Option, Some, None, refl}
use Rattle.draw_ops.specs.Blits.{SourceValue}
use Rattle.draw_ops.specs.declared.record_fault.RecordFault.TheVariants.{SourceOutside}
use Rattle.raster_ops.specs.Sources.{is_source_inside, is_readable}
use Rattle.raster_ops.specs.TernaryOps.{uses_source}
use Rattle.dc_stack.specs.OperationFault.{reading_fault, source_fault}

inside : (test : Bool) → cond test None (Some SourceOutside) ≡ None → test ≡ true
inside true e = refl
inside false e = cc

readable_if : (uses : Bool) (source : Option SourceValue) → cond uses (reading_fault source) None ≡ None → uses ≡ true → is_readable source ≡ true
readable_if true None e h = cc
readable_if true (Some source) e h = inside (is_source_inside source) e
readable_if false source e h = cc

-- where the operation depends on the source, and there is no fault, there is something to read
pub readable : (table : ℕ) (source : Option SourceValue) → source_fault table source ≡ None → uses_source table ≡ true → is_readable source ≡ true
readable table source none h = readable_if (uses_source table) source none h
