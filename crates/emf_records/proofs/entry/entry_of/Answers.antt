-- A type that no arm names is in no row.
use Rattle.std.proofs.Common.{arith, sym}
use Rattle.draw_ops.specs.KindTable.{IsAbsent, row_of_absent}
use Rattle.emf_records.specs.Kinds.{emf_kinds}
use Rattle.emf_records.proofs.entry.entry_of.Goals as goal

pub returns-in_default : goal.returns-in_default
returns-in_default c =
    let absent : IsAbsent c.args.record_type emf_kinds = omega arith in sym (row_of_absent c.args.record_type emf_kinds absent)
