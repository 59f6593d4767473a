-- There is one least box around points, and it is found point by point.
use Rattle.std.proofs.Common.{◌≡◌, ℤ, ◌≤ℤ◌, List, [], ◌∷◌, ◌++◌, refl, ap, sym, subst, ◌∙◌, arith, append_assoc}
use Rattle.std.specs.List.{All}
use Rattle.std.proofs.lemmas.Int.{ints}
use Rattle.std.proofs.lemmas.List.Elements.{All-nil}
use Rattle.mapping.specs.BoxLaws.{BoxLaws}
use Rattle.mapping.specs.Boxes.{HasPoint, IsBoundingBox, IsTight, point_box, no_box}
use Rattle.mapping.specs.declared.geometry.Point.{Point}
use Rattle.mapping.specs.declared.geometry.Rect.{Rect}
use Rattle.preflight_cert.specs.Gathered.{box_around, box_over, bounding_box}
use Rattle.preflight_cert.proofs.CoverLemmas.{HasCorners, corners, has_within}

no_more : (ps : List Point) → ps ++ [] ≡ ps
no_more [] = refl
no_more (p ∷ ps) = ap (λ (qs : List Point). p ∷ qs) (no_more ps)

-- the box around a tight one and points is tight around all
around_tight : BoxLaws → (box : Rect) (prefix points : List Point) → IsTight box prefix → IsTight (box_around box points) (prefix ++ points)
around_tight laws box prefix [] tight = subst (λ (ps : List Point). IsTight box ps) (sym (no_more prefix)) tight
around_tight laws box prefix (point ∷ points) tight =
    let both = laws.joins box (point_box point) (box_over box (point_box point)) prefix (point ∷ []) tight (laws.single point) (record { left = refl; top = refl; right = refl; bottom = refl }) in
    subst (λ (ps : List Point). IsTight (box_around (box_over box (point_box point)) points) ps) (append_assoc prefix (point ∷ []) points)
    (around_tight laws (box_over box (point_box point)) (prefix ++ point ∷ []) points both)

least_tight : BoxLaws → (point : Point) (points : List Point) → IsTight (bounding_box (point ∷ points)) (point ∷ points)
least_tight laws point points = around_tight laws (point_box point) (point ∷ []) points (laws.single point)

order_both : (u v : ℤ) → u ≤ℤ v → v ≤ℤ u → u ≡ v
order_both u v a b = omega (arith, ints, a, b)

abbrev a_box : ℤ → ℤ → ℤ → ℤ → Rect
a_box l t r b = record { l = l; t = t; r = r; b = b }

same_box : (k l s t q r a b : ℤ) → k ≡ l → s ≡ t → q ≡ r → a ≡ b → a_box k s q a ≡ a_box l t r b
same_box k l s t q r a b e f g h =
    ap (λ (v : ℤ). a_box v s q a) e ∙ ap (λ (v : ℤ). a_box l v q a) f ∙ ap (λ (v : ℤ). a_box l t v a) g ∙ ap (λ (v : ℤ). a_box l t r v) h

-- two boxes that have each other's corners are one
same_corners : (first second : Rect) → HasCorners first second → HasCorners second first → first ≡ second
same_corners first second a b =
    same_box first.l second.l first.t second.t first.r second.r first.b second.b
    (order_both first.l second.l a.left b.left) (order_both first.t second.t a.top b.top)
    (order_both first.r second.r b.right a.right) (order_both first.b second.b b.bottom a.bottom)

pub one_least : (first second : Rect) (points : List Point) → IsBoundingBox first points → IsBoundingBox second points → first ≡ second
one_least first second [] least other = least ∙ sym other
one_least first second (point ∷ points) least other =
    same_corners first second (corners first second (point ∷ points) other least.all) (corners second first (point ∷ points) least other.all)

pub is_least : BoxLaws → (points : List Point) → IsBoundingBox (bounding_box points) points
is_least laws [] = refl
is_least laws (point ∷ points) = least_tight laws point points

pub least_is : BoxLaws → (box : Rect) (points : List Point) → IsBoundingBox box points → box ≡ bounding_box points
least_is laws box points least = one_least box (bounding_box points) points least (is_least laws points)

-- the least box has the points that it is around
pub least_has : (box : Rect) (points : List Point) → IsBoundingBox box points → All (HasPoint box) points
least_has box [] least = All-nil (HasPoint box)
least_has box (point ∷ points) least = least.all

nothing_in : (box : Rect) (p : Point) → box ≡ no_box → HasPoint box p → ⊥
nothing_in box p e h =
    let l = ap (λ (r : Rect). r.l) e in let r = ap (λ (b : Rect). b.r) e in
    let a = h.left in let b = h.right in omega (arith, ints, l, r, a, b)

-- and each box that has these points holds it
pub held : (box least : Rect) (points : List Point) → IsBoundingBox least points → All (HasPoint box) points → (p : Point) → HasPoint least p → HasPoint box p
held box least [] is all p h = absurd (nothing_in least p is h)
held box least (point ∷ points) is all p h = has_within box least (corners box least (point ∷ points) is all) p h
