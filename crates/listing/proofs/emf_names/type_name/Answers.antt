-- A type that no arm names is in no row.
use Rattle.std.proofs.Common.{arith, sym}
use Rattle.draw_ops.specs.KindTable.{IsAbsent, row_of_absent}
use Rattle.listing.specs.EmfNames.{emf_names}
use Rattle.listing.proofs.emf_names.type_name.Goals as goal

pub returns-in_default-clause-name : goal.returns-in_default-clause-name
returns-in_default-clause-name c =
    let absent : IsAbsent c.args.record_type emf_names = omega arith in sym (row_of_absent c.args.record_type emf_names absent)
