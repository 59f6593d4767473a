use Rattle.std.proofs.Common.{◌≡◌, ◌≢◌, true, List, [], refl, rules, ap, ◌∙◌}
use Rattle.mapping.specs.PageMap.{map_numbers}
use Rattle.mapping.specs.declared.geometry.Point.{Point}
use Rattle.dc_stack.specs.GatheredPath.{path_of}
use Rattle.dc_stack.specs.Mapped.{mapped_list, mapped_point}
use Rattle.dc_stack.specs.Needs.{greater_needs, pieces_needed}
use Rattle.dc_stack.specs.Path.{Path, after_lines, is_open, piece_count}
use Rattle.dc_stack.specs.Pieces.{page_points}
use Rattle.dc_stack.proofs.AdditionLemmas.{some_mapped}
use Rattle.dc_stack.proofs.AddingLemmas.{lines_add, no_fault_of_none, none_added, not_added, nothing_gone_on}
use Rattle.dc_stack.proofs.machine.Machine.add_lines.Goals as goal

pub returns-then-not-is_some-clause-adds : goal.returns-then-not-is_some-clause-adds
returns-then-not-is_some-clause-adds g c =
    let old = c.args.self.now in
    let start = mapped_point old.state.dc.map old.state.dc.position in
    let none : page_points c.args.points ≡ [] = search rules in
    let no_points = ap (mapped_list old.state.dc.map) none in
    let same = ap (λ (points : List Point). after_lines start points old.state.path) no_points ∙ nothing_gone_on start old.state.path in
    rw same (record {
      no_fault = no_fault_of_none old.state.path _ old.surface c.added.ensures.few (none_added start (mapped_list old.state.dc.map (page_points c.args.points)) old.state.path no_points);
      state = c.added.ensures.state;
      needs = c.added.ensures.needs;
      extent = none_added start (mapped_list old.state.dc.map (page_points c.args.points)) old.state.path no_points;
    })

pub returns-in-Ok-clause-adds : goal.returns-in-Ok-clause-adds
returns-in-Ok-clause-adds g c =
    let path = c.in-Ok.ensures.path in
    rw (← c.self.view_is) (record {
      no_fault = c.in-Ok.ensures.answer.no_fault;
      state = c.added-in-Ok.ensures.state ∙ rw path refl;
      needs = c.added-in-Ok.ensures.needs ∙ ap (λ (p : Path). greater_needs c.self.inside.needs (pieces_needed (piece_count p))) path;
      extent = c.in-Ok.ensures.answer.extent;
    })

pub returns-in-Err-clause-adds : goal.returns-in-Err-clause-adds
returns-in-Err-clause-adds g c =
    let same = c.in-Err.ensures.kept in
    let map = map_numbers c.self.inside.dc.map in
    let path = path_of c.self.inside.path in
    let begun : is_open path ≡ true = rw (← c.self.view_is) at c.requires.«open» in
    let some : page_points c.args.points ≢ [] = search rules in
    let adds = lines_add (mapped_point map c.self.inside.dc.position) (mapped_list map (page_points c.args.points)) path begun (some_mapped map (page_points c.args.points) some) in
    rw (← c.self.view_is) (not_added _ _ _ _ c.in-Err.fault _ c.in-Err.ensures.answer (λ lacks. lacks) adds (record {
      state = rw (same.phase, same.pieces) refl;
      painted = rw (same.phase, same.pieces) refl;
      plane_extent = refl;
      needs = refl;
    }))
