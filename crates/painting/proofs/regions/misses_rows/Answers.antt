-- A drawing lies outside rows if it ends above them, or doesn't begin above their end.
use Rattle.std.proofs.Common.{FitsSigned, w32, rules, sym, ◌∙◌}
use Rattle.std.proofs.lemmas.Int.{to_z-of_z}
use Rattle.painting.proofs.MissedLemmas.{outside_else}
use Rattle.painting.proofs.regions.misses_rows.Goals as goal

pub returns-else-ends_above : goal.returns-else-ends_above
returns-else-ends_above c =
    let t : FitsSigned w32 c.args.bounds.t = search rules in
    let b : FitsSigned w32 c.args.bounds.b = search rules in
    let above = simp to_z-of_z at c.ends_above.ensures in
    let begins = simp to_z-of_z at c.begins_above.ensures in
    rw begins (rw (c.rows_held-held.ensures.to) (outside_else _ _ c.args.canvas.now.first c.args.canvas.now.rows (rw c.rows_held-held.ensures.from at (sym above ∙ c.if-ends_above.false))))
