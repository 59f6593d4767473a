-- The columns of both, counted from the region's first.
use Rattle.std.proofs.Common.{rules, ◌+◌, FitsSigned}
use Rattle.std.specs.Int.{w64}
use Rattle.std.proofs.lemmas.Int.{to_z-of_z}
use Rattle.span_fill.proofs.MaskFrameLemmas.{columns_counted}
use Rattle.span_fill.proofs.mask_frame.MaskFrame.columns_of.Goals as goal

pub returns-clause-columns : goal.returns-clause-columns
returns-clause-columns c = λ x within.
    let from : FitsSigned w64 c.from.result = search rules in
    let to : FitsSigned w64 c.from-2.result = search rules in
    let numbers = simp to_z-of_z at (c.between-part.ensures.numbers (x + c.args.self.region.columns.from)) in
    columns_counted c.args.self.region.columns c.args.columns c.between-part.result c.from.result c.from-2.result x c.from.ensures c.from-2.ensures c.between-part.ensures.first c.between-part.ensures.order numbers within
