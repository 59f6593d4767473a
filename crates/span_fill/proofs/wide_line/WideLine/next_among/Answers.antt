-- Without a row to come the line stays what it is.
use Rattle.std.proofs.Common.{rules, FitsSigned, refl}
use Rattle.std.specs.Int.{w32}
use Rattle.std.proofs.lemmas.Int.{to_z-of_z}
use Rattle.mapping.specs.TestLaws.{int_le-true}
use Rattle.span_fill.proofs.wide_line.WideLine.next_among.Goals as goal

pub returns-then-self : goal.returns-then-self
returns-then-self c =
    let next : FitsSigned w32 c.self.inside.next = search rules in
    let end : FitsSigned w32 c.self.inside.edge.seen.to = search rules in
    let test = simp to_z-of_z at c.if-self.true in
    let ended = int_le-true c.self.inside.edge.seen.to c.self.inside.next test in
    rw (← c.self.view_is) (ended, refl)
