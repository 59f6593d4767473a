use Rattle.std.proofs.Common.{◌≡◌, true, false, rules}
use Rattle.dc_stack.specs.Path.{is_open}
use Rattle.dc_stack.proofs.AddingLemmas.{plays_line}
use Rattle.dc_stack.proofs.MarkingLemmas.{plays_line_apart}
use Rattle.dc_stack.proofs.machine.Machine.line_to.Goals as goal

pub returns-then-is_open-clause-plays : goal.returns-then-is_open-clause-plays
returns-then-is_open-clause-plays g c =
    let begun : is_open c.args.self.now.state.path ≡ true = search rules in
    c.draw_nothing.ensures _ _ _ (plays_line c.args.self.now c.add_lines.new.self begun c.add_lines.result c.args.point c.add_lines.ensures.adds)

pub returns-else-is_open-clause-plays : goal.returns-else-is_open-clause-plays
returns-else-is_open-clause-plays g c =
    let closed : is_open c.args.self.now.state.path ≡ false = search rules in
    plays_line_apart c.args.self.now c.draw_line.new.self closed _ c.args.point c.draw_line.ensures.draws
