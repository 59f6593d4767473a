-- The least box around points is mapped to the least box around their images.
use Rattle.std.proofs.Common.{◌≡◌, ◌⊎◌, ℤ, ◌≤ℤ◌, List, map, length, arith, inl, inr, refl, ap, sym, ◌<◌, ◌∙◌}
use Rattle.std.specs.Int.{int_max, int_min}
use Rattle.std.specs.List.{Any}
use Rattle.std.proofs.lemmas.Int.{ints}
use Rattle.std.proofs.lemmas.List.{get_or-map, length-map}
use Rattle.std.proofs.lemmas.List.Elements.{All-map}
use Rattle.mapping.specs.Boxes.{HasPoint, IsBetween, KeepsBetween, mapped_box_by, mapped_by}
use Rattle.mapping.specs.BoxLaws.{BoxLaws}
use Rattle.mapping.specs.declared.geometry.Point.{Point}
use Rattle.mapping.specs.declared.geometry.Rect.{Rect}
use Rattle.mapping.proofs.BetweenLemmas.{map_keeps_between, place_keeps_between}
use Rattle.mapping.proofs.JoiningLemmas.{greater_is, joins_over, lesser_is, single_tight}
use Rattle.mapping.proofs.LandsLemmas.{lands_by_corners}

-- what some element has, its image has some
any_mapped : (f : Point → Point) (P Q : Point → Type 0) → ((x : Point) → P x → Q (f x)) → (xs : List Point) → Any P xs → Any Q (map f xs)
any_mapped f P Q step xs (k, x, below, at, holds) =
    let inside : k < length (map f xs) = rw (length-map xs f) below in
    (k, f x, inside, get_or-map f xs k x (f x) below ∙ ap f at, step x holds)

-- what lies between two lies from the lesser to the greater
above_lesser : (u v w : ℤ) → IsBetween u v w → int_min u w ≤ℤ v
above_lesser u v w between = grind (arith, ints)

below_greater : (u v w : ℤ) → IsBetween u v w → v ≤ℤ int_max u w
below_greater u v w between = grind (arith, ints)

-- a side of the mapped box has the image of a point on one of two sides
on_side : (h : ℤ → ℤ) (f g : ℤ → ℤ) (part : Point → ℤ) (whole : (point : Point) → part (mapped_by f g point) ≡ h (part point)) (side from to : ℤ)
    → (side ≡ h from) ⊎ (side ≡ h to) → (points : List Point) → Any (λ point. part point ≡ from) points → Any (λ point. part point ≡ to) points
    → Any (λ point. part point ≡ side) (map (mapped_by f g) points)
on_side h f g part whole side from to is points first second = elim is [
  | inl same ↦ any_mapped (mapped_by f g) (λ point. part point ≡ from) (λ point. part point ≡ side) (λ point at. whole point ∙ ap h at ∙ sym same) points first
  | inr same ↦ any_mapped (mapped_by f g) (λ point. part point ≡ to) (λ point. part point ≡ side) (λ point at. whole point ∙ ap h at ∙ sym same) points second
]

-- the mapped box has the image of each point of the box
has_image : (f g : ℤ → ℤ) (box : Rect) (point : Point) → KeepsBetween f → KeepsBetween g → HasPoint box point → HasPoint (mapped_box_by f g box) (mapped_by f g point)
has_image f g box point of_x of_y has =
    let x = of_x box.l point.x box.r (inl (has.left, has.right)) in
    let y = of_y box.t point.y box.b (inl (has.top, has.bottom)) in
    record { left = above_lesser _ _ _ x; top = above_lesser _ _ _ y; right = below_greater _ _ _ x; bottom = below_greater _ _ _ y }

pub box_laws : BoxLaws
box_laws = record {
  single = single_tight;
  joins = λ first second both points others tight other is. joins_over first second both is points others tight other;
  page_map = map_keeps_between;
  place = place_keeps_between;
  lands = lands_by_corners;
  boxes = λ f g box points of_x of_y tight. record {
    all = All-map (HasPoint (mapped_box_by f g box)) (mapped_by f g) points (λ k d below. has_image f g box _ of_x of_y (tight.all k d below));
    left = on_side f f g (λ point. point.x) (λ point. refl) _ box.l box.r (lesser_is (f box.l) (f box.r)) points tight.left tight.right;
    top = on_side g f g (λ point. point.y) (λ point. refl) _ box.t box.b (lesser_is (g box.t) (g box.b)) points tight.top tight.bottom;
    right = on_side f f g (λ point. point.x) (λ point. refl) _ box.l box.r (greater_is (f box.l) (f box.r)) points tight.left tight.right;
    bottom = on_side g f g (λ point. point.y) (λ point. refl) _ box.t box.b (greater_is (g box.t) (g box.b)) points tight.top tight.bottom;
  };
}
