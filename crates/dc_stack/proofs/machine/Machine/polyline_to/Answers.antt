use Rattle.std.proofs.Common.{◌≡◌, true, false, List, rules, ap, subst, ◌∙◌}
use Rattle.std.proofs.lemmas.List.{append-nil}
use Rattle.mapping.specs.declared.geometry.Point.{Point}
use Rattle.point_views.specs.Points.{points_of}
use Rattle.dc_stack.specs.Adding.{AddsLines}
use Rattle.dc_stack.specs.MachineState.{MachineState}
use Rattle.dc_stack.specs.Next.{end_of}
use Rattle.dc_stack.specs.Path.{is_open}
use Rattle.dc_stack.proofs.AddingLemmas.{plays_lines}
use Rattle.dc_stack.proofs.MarkingLemmas.{plays_lines_apart}
use Rattle.dc_stack.proofs.machine.Machine.polyline_to.Goals as goal

pub returns-then-is_open-clause-plays : goal.returns-then-is_open-clause-plays
returns-then-is_open-clause-plays g c =
    let old = c.args.self.now in
    let new = c.add_lines.new.self in
    let points = points_of c.args.points in
    let begun : is_open old.state.path ≡ true = search rules in
    let end = c.end_of-end.ensures ∙ ap (λ (m : MachineState). end_of m.state.dc.position points) c.self.view_is in
    let listed = subst (λ (ps : List Point). AddsLines ps c.end_of-end.result old c.add_lines.result new) (append-nil points) c.add_lines.ensures.adds in
    c.draw_nothing.ensures _ _ _ (plays_lines old new begun c.add_lines.result points (subst (λ (p : Point). AddsLines points p old c.add_lines.result new) end listed))

pub returns-else-is_open-clause-plays : goal.returns-else-is_open-clause-plays
returns-else-is_open-clause-plays g c =
    let closed : is_open c.args.self.now.state.path ≡ false = search rules in
    plays_lines_apart c.args.self.now c.draw_lines.new.self closed _ (points_of c.args.points) c.draw_lines.ensures.draws
