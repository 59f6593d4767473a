use Rattle.std.proofs.lemmas.List.Elements.{All-rest}
use Rattle.span_fill.specs.Lines.{HasNearEnds}
use Rattle.part_tests.proofs.row_crossings.LineListOutline.next_line.Goals as goal

pub invariant_of-self : goal.invariant_of-self
invariant_of-self c = record { near = All-rest HasNearEnds c.in_ok-first.first.now c.in_ok-first.rest.now c.args.self.now.rest.now c.in_ok-first.ensures.cases.0 c.args.self.now.near }
