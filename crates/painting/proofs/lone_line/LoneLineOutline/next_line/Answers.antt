use Rattle.std.proofs.Common.{[], Option, Some, None, All}
use Rattle.std.specs.Prelude.{IfSome}
use Rattle.std.proofs.lemmas.List.Elements.{All-head, All-nil}
use Rattle.span_fill.specs.Lines.{HasNearEnds}
use Rattle.span_fill.specs.declared.line.Line.{Line}
use Rattle.painting.specs.LoneLines.{lone_lines}
use Rattle.painting.proofs.lone_line.LoneLineOutline.next_line.Goals as goal

first_near : (line : Option Line) → All HasNearEnds (lone_lines line) → IfSome line HasNearEnds
first_near None near = tt
first_near (Some line) near = All-head HasNearEnds line [] near

pub invariant_of-self : goal.invariant_of-self
invariant_of-self c = record { near = All-nil HasNearEnds }

pub returns-clause-near : goal.returns-clause-near
returns-clause-near c = first_near c.args.self.now.line c.args.self.now.near
