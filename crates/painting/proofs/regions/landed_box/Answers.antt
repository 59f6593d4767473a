use Rattle.std.proofs.Common.{◌≡◌, rules, subst, sym, ap, ◌∙◌}
use Rattle.mapping.specs.Boxes.{box_between, right_bottom_of, left_top_of}
use Rattle.mapping.specs.PlaceOf.{surface_of}
use Rattle.mapping.specs.Surface.{placed_point}
use Rattle.mapping.specs.declared.geometry.Rect.{Rect}
use Rattle.draw_ops.specs.declared.operation.RectangleEdges.TheVariants.{Inclusive}
use Rattle.preflight_cert.specs.Rectangles.{raised}
use Rattle.span_fill.specs.WideStrokes.{widened}
use Rattle.painting.specs.Regions.{HasLanded}
use Rattle.painting.proofs.LandedBoxLemmas.{between_reached, none_in, none_reached, reached_between, shows}
use Rattle.painting.proofs.regions.landed_box.Goals as goal

pub returns-in-Some-Some : goal.returns-in-Some-Some
returns-in-Some-Some c =
    let s = surface_of c.args.place in
    let bounds = c.args.bounds in
    let near : c.in-Some-Some.near ≡ placed_point (left_top_of bounds) s = let there : c.in-Some-Some.near ≡ placed_point c.left_top.result s = search rules in rw c.left_top.ensures at there in
    let far : c.in-Some-Some.far ≡ placed_point (right_bottom_of bounds) s = let there : c.in-Some-Some.far ≡ placed_point c.right_bottom.result s = search rules in rw c.right_bottom.ensures at there in
    let nib = c.args.nib in
    let inside = c.rectangle_box.ensures.value ∙ ap (λ p. raised Inclusive (box_between p c.in-Some-Some.far)) near ∙ ap (λ p. raised Inclusive (box_between (placed_point (left_top_of bounds) s) p)) far in
    let box = c.widened.ensures ∙ ap (λ (r : Rect). widened nib r) inside in
    subst (λ (there : Rect). HasLanded nib s bounds there) (sym box)
    (record {
      all = λ points least within x y reached. reached_between nib s bounds x y reached;
      no_other = λ wide high x y inside. between_reached c.placing_law.ensures nib s (shows c.args.place) bounds wide high x y inside;
    })

pub returns-in_default : goal.returns-in_default
returns-in_default c =
    let bounds = c.args.bounds in
    let off = rw (c.in_default.is-1, c.right_bottom.ensures) at c.place-far.ensures.point in
    record {
      all = λ points least within x y reached. absurd (none_reached c.box_law.ensures c.args.place bounds c.args.nib (λ near far. off far) points least within x y reached);
      no_other = λ wide high x y inside. absurd (none_in x y inside);
    }

pub returns-in_default-2 : goal.returns-in_default-2
returns-in_default-2 c =
    let bounds = c.args.bounds in
    let off = rw (c.in_default.is-0, c.left_top.ensures) at c.place-near.ensures.point in
    record {
      all = λ points least within x y reached. absurd (none_reached c.box_law.ensures c.args.place bounds c.args.nib (λ near far. off near) points least within x y reached);
      no_other = λ wide high x y inside. absurd (none_in x y inside);
    }
