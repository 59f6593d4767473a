-- The numbers are what they are as they are passed.
use Rattle.std.proofs.Common.{FitsSigned, w64, ◌+ℤ◌, rules, refl}
use Rattle.std.proofs.lemmas.Int.{to_z-of_z}
use Rattle.span_fill.proofs.edge.ActiveEdge.move_on.Goals as goal

pub returns : goal.returns
returns c =
    let column : FitsSigned w64 c.raised-self.result = search rules in
    let rest : FitsSigned w64 c.lowered-self.result = search rules in
    let divisor : FitsSigned w64 c.args.self.now.divisor = search rules in
    let step : FitsSigned w64 c.args.self.now.step = search rules in
    let more : FitsSigned w64 c.args.self.now.more = search rules in
    let old_column : FitsSigned w64 c.args.self.now.column = search rules in
    let old_rest : FitsSigned w64 c.args.self.now.rest = search rules in
    let sum : FitsSigned w64 (c.args.self.now.column +ℤ c.args.self.now.step) = search rules in
    let rests : FitsSigned w64 (c.args.self.now.rest +ℤ c.args.self.now.more) = search rules in
    let column_value = simp to_z-of_z at c.raised-self.ensures in
    let rest_value = simp to_z-of_z at c.lowered-self.ensures in
    simp to_z-of_z (rw (column_value, rest_value) refl)
