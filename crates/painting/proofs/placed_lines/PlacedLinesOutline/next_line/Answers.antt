use Rattle.std.proofs.Common.{◌≡◌, List, [], ◌++◌, sym, ap, ◌∙◌, arith, rules}
use Rattle.std.proofs.lemmas.Grind.{common_steps}
use Rattle.point_views.specs.Points.{points_of}
use Rattle.point_views.specs.Polys.{lists_of}
use Rattle.span_fill.specs.declared.line.Line.{Line}
use Rattle.painting.specs.PlacedLines.{lines_of_lists}
use Rattle.painting.proofs.EmptyListLemmas.{after_lands, fewer_after, first_lines_after, no_lines_after}
use Rattle.painting.proofs.LandingLemmas.{first_list_lands, other_lists_land}
use Rattle.painting.proofs.placed_lines.PlacedLinesOutline.next_line.Goals as goal

pub begin-requires : goal.begin-requires
begin-requires c =
    let lines = c.loop-line.self in
    let taken = c.in-Some-split_first in
    let after = lists_of c.after_empty.result in
    let land = after_lands lines.current.by after (lists_of lines.lists) c.after_empty.ensures lines.land in
    rw c.next_line.ensures.by (first_list_lands lines.current.by (points_of taken.points) (lists_of taken.rest) after taken.ensures.lists land)

pub invariant_of-self-in-loop-line : goal.invariant_of-self-in-loop-line
invariant_of-self-in-loop-line c =
    let lines = c.loop-line.self in
    let taken = c.in-Some-split_first in
    let after = lists_of c.after_empty.result in
    let land = after_lands lines.current.by after (lists_of lines.lists) c.after_empty.ensures lines.land in
    rw (c.begin.ensures.by, c.next_line.ensures.by) (record { land = other_lists_land lines.current.by (points_of taken.points) (lists_of taken.rest) after taken.ensures.lists land })

pub loop-line-smaller : goal.loop-line-smaller
loop-line-smaller c =
    let taken = c.in-Some-split_first in
    fewer_after (points_of taken.points) (lists_of taken.rest) (lists_of c.after_empty.result) (lists_of c.loop-line.self.lists) taken.ensures.lists c.after_empty.ensures

pub loop-line-preserved : goal.loop-line-preserved
loop-line-preserved c =
    let lines = c.loop-line.self in
    let taken = c.in-Some-split_first in
    let first = first_lines_after lines.current.by lines.current.ends (points_of taken.points) (lists_of taken.rest) (lists_of c.after_empty.result) (lists_of lines.lists) taken.ensures.lists c.after_empty.ensures in
    let others = λ (current : List Line). current ++ lines_of_lists lines.current.by lines.current.ends (lists_of lines.lists) in
    rw (c.begin.ensures.lines, c.begin.ensures.by, c.begin.ensures.ends, c.next_line.ensures.by, c.next_line.ensures.ends)
    (sym first ∙ ap others (sym c.in_default.ensures.line.0) ∙ c.loop-line.invariant)

pub returns-in_default-split_first-clause-line : goal.returns-in_default-split_first-clause-line
returns-in_default-split_first-clause-line c =
    let lines = c.loop-line.self in
    let after = lists_of c.after_empty.result in
    let empty : after ≡ [] = first_of (search rules, grind (arith, common_steps)) in
    let none = no_lines_after lines.current.by lines.current.ends after (lists_of lines.lists) empty c.after_empty.ensures in
    let given = c.in_default.ensures.line in
    let others = λ (current : List Line). current ++ lines_of_lists lines.current.by lines.current.ends (lists_of lines.lists) in
    (sym c.loop-line.invariant ∙ ap others given.0 ∙ none, rw (given.1, c.in_default.ensures.by, c.in_default.ensures.ends) none)
