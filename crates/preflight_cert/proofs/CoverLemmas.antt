-- A box has all points exactly where it has the least box around them.
use Rattle.std.proofs.Common.{◌≡◌, ◌≤ℤ◌, ◌<ℤ◌, true, ◌&&◌, int_le, List, [], ◌∷◌, get_or, refl, ap, arith}
use Rattle.std.specs.List.{All, Any, list_all}
use Rattle.std.proofs.lemmas.Bool.{and_from, and_parts}
use Rattle.std.proofs.lemmas.Int.{ints}
use Rattle.std.proofs.lemmas.List.Elements.{All-cons, All-head, All-nil, All-tail}
use Rattle.mapping.specs.Boxes.{HasPoint, IsBoundingBox, IsTight, has_box, has_part}
use Rattle.mapping.specs.TestLaws.{int_le-from, int_le-true, same_test}
use Rattle.mapping.specs.declared.geometry.Point.{Point}
use Rattle.mapping.specs.declared.geometry.Rect.{Rect}
use Rattle.preflight_cert.specs.Entries.{covers, has_point}

-- the test of a point, as a fact
pub point_in : (box : Rect) (p : Point) → has_point box p ≡ true → HasPoint box p
point_in box p t =
    let a = and_parts (int_le box.l p.x && int_le p.x box.r) (int_le box.t p.y && int_le p.y box.b) t in
    let b = and_parts (int_le box.l p.x) (int_le p.x box.r) a.0 in
    let c = and_parts (int_le box.t p.y) (int_le p.y box.b) a.1 in
    record { left = int_le-true box.l p.x b.0; top = int_le-true box.t p.y c.0; right = int_le-true p.x box.r b.1; bottom = int_le-true p.y box.b c.1 }

pub point_of : (box : Rect) (p : Point) → HasPoint box p → has_point box p ≡ true
point_of box p h =
    and_from (int_le box.l p.x && int_le p.x box.r) (int_le box.t p.y && int_le p.y box.b)
    (and_from (int_le box.l p.x) (int_le p.x box.r) (int_le-from box.l p.x h.left) (int_le-from p.x box.r h.right))
    (and_from (int_le box.t p.y) (int_le p.y box.b) (int_le-from box.t p.y h.top) (int_le-from p.y box.b h.bottom))

pub points_in : (box : Rect) (ps : List Point) → covers box ps ≡ true → All (HasPoint box) ps
points_in box [] t = All-nil (HasPoint box)
points_in box (p ∷ ps) t =
    let parts = and_parts (has_point box p) (list_all (has_point box) ps) t in
    All-cons (HasPoint box) p ps (point_in box p parts.0) (points_in box ps parts.1)

pub points_of : (box : Rect) (ps : List Point) → All (HasPoint box) ps → covers box ps ≡ true
points_of box [] all = refl
points_of box (p ∷ ps) all =
    and_from (has_point box p) (list_all (has_point box) ps) (point_of box p (All-head (HasPoint box) p ps all)) (points_of box ps (All-tail (HasPoint box) p ps all))

-- what holds of some point holds of one of which all that holds of each does
of_some : {R : Type 0} (P Q : Point → Type 0) (ps : List Point) → Any P ps → All Q ps → ((x : Point) → P x → Q x → R) → R
of_some P Q ps (k, x, below, at, holds) all step = step x holds (rw at at (all k x below))

-- two boxes, of which the one has two corners of the other
pub record HasCorners (box least : Rect) : Type 0 where
  pub left : box.l ≤ℤ least.l
  pub top : box.t ≤ℤ least.t
  pub right : least.r ≤ℤ box.r
  pub bottom : least.b ≤ℤ box.b

pub corners : (box least : Rect) (ps : List Point) → IsTight least ps → All (HasPoint box) ps → HasCorners box least
corners box least ps tight all = record {
  left = of_some (λ p. p.x ≡ least.l) (HasPoint box) ps tight.left all (λ p is has. rw is at has.left);
  top = of_some (λ p. p.y ≡ least.t) (HasPoint box) ps tight.top all (λ p is has. rw is at has.top);
  right = of_some (λ p. p.x ≡ least.r) (HasPoint box) ps tight.right all (λ p is has. rw is at has.right);
  bottom = of_some (λ p. p.y ≡ least.b) (HasPoint box) ps tight.bottom all (λ p is has. rw is at has.bottom);
}

pub has_within : (box least : Rect) → HasCorners box least → (p : Point) → HasPoint least p → HasPoint box p
has_within box least c p h =
    let a = c.left in let b = c.top in let d = c.right in let e = c.bottom in
    let i = h.left in let j = h.top in let k = h.right in let m = h.bottom in
    record { left = omega (arith, ints, a, i); top = omega (arith, ints, b, j); right = omega (arith, ints, d, k); bottom = omega (arith, ints, e, m) }

all_within : (box least : Rect) (ps : List Point) → HasCorners box least → All (HasPoint least) ps → All (HasPoint box) ps
all_within box least ps c all = λ k d below. has_within box least c (get_or ps k d) (all k d below)

test_of : (box least : Rect) → HasCorners box least → has_box box least ≡ true
test_of box least c =
    and_from (has_part box.l box.r least.l least.r) (has_part box.t box.b least.t least.b)
    (and_from (int_le box.l least.l) (int_le least.r box.r) (int_le-from box.l least.l c.left) (int_le-from least.r box.r c.right))
    (and_from (int_le box.t least.t) (int_le least.b box.b) (int_le-from box.t least.t c.top) (int_le-from least.b box.b c.bottom))

from_test : (box least : Rect) → has_box box least ≡ true → HasCorners box least
from_test box least t =
    let a = and_parts (has_part box.l box.r least.l least.r) (has_part box.t box.b least.t least.b) t in
    let b = and_parts (int_le box.l least.l) (int_le least.r box.r) a.0 in
    let c = and_parts (int_le box.t least.t) (int_le least.b box.b) a.1 in
    record { left = int_le-true box.l least.l b.0; top = int_le-true box.t least.t c.0; right = int_le-true least.r box.r b.1; bottom = int_le-true least.b box.b c.1 }

pub corners_cover : (box least : Rect) (ps : List Point) → least.l ≤ℤ least.r → IsBoundingBox least ps →
    has_box box least ≡ covers box ps
corners_cover box least [] order is = absurd (let a = ap (λ (r : Rect). r.l) is in let b = ap (λ (r : Rect). r.r) is in omega (arith, ints, order, a, b))
corners_cover box least (p ∷ ps) order tight =
    same_test _ _
    (λ t. points_of box (p ∷ ps) (all_within box least (p ∷ ps) (from_test box least t) tight.all))
    (λ t. test_of box least (corners box least (p ∷ ps) tight (points_in box (p ∷ ps) t)))

pub none_covered : (box least : Rect) (ps : List Point) → least.r <ℤ least.l → IsBoundingBox least ps → covers box ps ≡ true
none_covered box least [] order is = refl
none_covered box least (p ∷ ps) order tight =
    let h = All-head (HasPoint least) p ps tight.all in
    let a = h.left in let b = h.right in absurd (omega (arith, ints, order, a, b))

pub ruleset covering = (none_covered)
