use Rattle.std.proofs.Common.{◌∙◌, subst, sym}
use Rattle.point_views.specs.Points.{points_of}
use Rattle.point_views.specs.Polys.{lists_of}
use Rattle.dc_stack.specs.declared.projection.Projection.{Projection}
use Rattle.span_fill.specs.Lines.{IsNearPoint}
use Rattle.painting.proofs.LandingLemmas.{fits_there, lands_there, start_and_list_land, start_lands}
use Rattle.painting.proofs.PaintedFigureLemmas.{listed_land, listed_lines, through_lines}
use Rattle.painting.proofs.figure_outline.FigureOutline.new.Goals as goal

pub at-requires : goal.at-requires
at-requires g c =
    let by : Projection = record { map = c.in-Through.map; place = c.place-place.result } in
    let s = c.args.machine.now.surface in
    let lands = rw c.in-Through.is at c.requires.land in
    fits_there c.place-place.result s c.in-Through.from c.place-place.ensures (start_lands by s c.place-place.ensures c.in-Through.from (points_of c.in-Through.points) lands)

pub from-requires-clause-near : goal.from-requires-clause-near
from-requires-clause-near g c =
    let by : Projection = record { map = c.in-Through.map; place = c.place-place.result } in
    let s = c.args.machine.now.surface in
    let lands = rw c.in-Through.is at c.requires.land in
    let near = (start_and_list_land by s c.place-place.ensures c.in-Through.from (points_of c.in-Through.points) lands).0 in
    subst IsNearPoint (sym (lands_there c.place-place.result s c.in-Through.from c.at.result c.place-place.ensures c.at.ensures)) near

pub from-requires-clause-land : goal.from-requires-clause-land
from-requires-clause-land g c =
    let by : Projection = record { map = c.in-Through.map; place = c.place-place.result } in
    let lands = rw c.in-Through.is at c.requires.land in
    (start_and_list_land by c.args.machine.now.surface c.place-place.ensures c.in-Through.from (points_of c.in-Through.points) lands).1

pub of_lists-requires : goal.of_lists-requires
of_lists-requires g c =
    let by : Projection = record { map = c.in-Lists.map; place = c.place-place.result } in
    let lands = rw c.in-Lists.is at c.requires.land in
    listed_land by c.args.machine.now.surface c.place-place.ensures (lists_of c.in-Lists.lists) lands

pub returns-in-Through : goal.returns-in-Through
returns-in-Through g c =
    let by : Projection = record { map = c.in-Through.map; place = c.place-place.result } in
    let from = c.in-Through.from in
    let there = lands_there c.place-place.result c.args.machine.now.surface from c.at.result c.place-place.ensures c.at.ensures in
    rw c.in-Through.is (c.from.ensures ∙ through_lines by c.args.machine.now.surface c.place-place.ensures c.args.ends c.at.result from (points_of c.in-Through.points) there)

pub returns-in-Lists : goal.returns-in-Lists
returns-in-Lists g c =
    let by : Projection = record { map = c.in-Lists.map; place = c.place-place.result } in
    rw c.in-Lists.is (c.of_lists.ensures ∙ listed_lines by c.args.machine.now.surface c.place-place.ensures c.args.ends (lists_of c.in-Lists.lists))
