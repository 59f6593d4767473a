use Rattle.std.proofs.Common.{◌≡◌, ◌≢◌, ◌+◌, ◌<◌, true, [], Err, vec_capacity, arith, refl, rules, ap, subst, sym, ◌∙◌}
use Rattle.mapping.specs.PageMap.{map_numbers}
use Rattle.mapping.specs.PlaceOf.{surface_of}
use Rattle.dc_stack.specs.GatheredPath.{path_of}
use Rattle.dc_stack.specs.Mapped.{mapped_list}
use Rattle.dc_stack.specs.OperationFault.{addition_fault}
use Rattle.dc_stack.specs.Path.{is_open}
use Rattle.dc_stack.specs.Pieces.{page_points, plane_lists}
use Rattle.dc_stack.proofs.AddingLemmas.{lists_count, no_fault_of_none, none_on_plane, not_added, nothing_listed, pieces_counted, some_on_plane}
use Rattle.dc_stack.proofs.AdditionLemmas.{same_answer}
use Rattle.dc_stack.proofs.machine.Machine.add_lists.Goals as goal

pub returns-then-not-is_some-clause-adds : goal.returns-then-not-is_some-clause-adds
returns-then-not-is_some-clause-adds g c =
    let old = c.args.self.now in
    let map = old.state.dc.map in
    let none : page_points c.args.points ≡ [] = search rules in
    let no_points = none_on_plane map c.args.points none in
    let same = nothing_listed c.args.verb (plane_lists map c.args.points) old.state.path c.requires.own no_points in
    rw same (record {
      no_fault = no_fault_of_none old.state.path _ old.surface c.added-then-not-is_some.ensures.few (ap (mapped_list map) none);
      state = search rules;
      needs = search rules;
      extent = ap (mapped_list map) none;
    })

pub add_lists-requires-clause-some : goal.add_lists-requires-clause-some
add_lists-requires-clause-some g c =
    let some : page_points c.args.points ≢ [] = search rules in
    some_on_plane (map_numbers c.self.inside.dc.map) c.args.points some

pub returns-in-Err-clause-adds : goal.returns-in-Err-clause-adds
returns-in-Err-clause-adds g c =
    let same = c.in-Err.ensures.kept in
    let map = map_numbers c.self.inside.dc.map in
    let path = path_of c.self.inside.path in
    let lists = plane_lists map c.args.points in
    let begun : is_open path ≡ true = rw (← c.self.view_is) at c.requires.«open» in
    let some : page_points c.args.points ≢ [] = search rules in
    let pieces = c.self.inside.path.pieces in
    let before = pieces_counted c.self.inside.path.phase pieces.items begun in
    let count = lists_count c.args.verb lists path begun (some_on_plane map c.args.points some) in
    let after = count ∙ ap (λ n. n + 1) before in
    let points = mapped_list map (page_points c.args.points) in
    let fault = ap (λ n. addition_fault n points (surface_of c.self.inside.place)) (sym after) in
    let answer = same_answer (Err c.in-Err.fault) points points _ _ _ _ refl fault (λ lacks. subst (λ n. vec_capacity pieces < n) (sym after) lacks) c.in-Err.ensures.answer in
    rw (← c.self.view_is) (not_added _ _ _ _ c.in-Err.fault _ answer (λ lacks. lacks) (omega (arith, count)) (record {
      state = rw (same.phase, same.pieces) refl;
      painted = rw (same.phase, same.pieces) refl;
      plane_extent = refl;
      needs = refl;
    }))
