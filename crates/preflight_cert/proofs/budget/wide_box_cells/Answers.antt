-- The cells are those of the columns and of the rows.
use Rattle.std.proofs.Common.{◌≡◌, ◌*◌, rules, FitsSigned, w32, ap, ◌∙◌}
use Rattle.std.proofs.lemmas.Int.{to_z-of_z}
use Rattle.preflight_cert.proofs.budget.wide_box_cells.Goals as goal

pub returns-clause-cells : goal.returns-clause-cells
returns-clause-cells c =
    let l : FitsSigned w32 c.args.bounds.l = search rules in
    let r : FitsSigned w32 c.args.bounds.r = search rules in
    let t : FitsSigned w32 c.args.bounds.t = search rules in
    let b : FitsSigned w32 c.args.bounds.b = search rules in
    let columns = simp to_z-of_z at c.wide_columns-columns.ensures.cells in
    let rows = simp to_z-of_z at c.wide_rows-rows.ensures.cells in
    rw (← columns, ← rows) c.product.ensures.product
