-- A function that no arm names is in no row.
use Rattle.std.proofs.Common.{arith, sym}
use Rattle.draw_ops.specs.KindTable.{IsAbsent, row_of_absent}
use Rattle.listing.specs.WmfNames.{wmf_names}
use Rattle.listing.proofs.wmf_names.function_name.Goals as goal

pub returns-in_default-clause-name : goal.returns-in_default-clause-name
returns-in_default-clause-name c =
    let absent : IsAbsent c.args.function wmf_names = omega arith in sym (row_of_absent c.args.function wmf_names absent)
