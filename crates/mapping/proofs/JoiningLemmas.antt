-- The box around the least boxes of two lists of points is the least of both.
use Rattle.std.proofs.Common.{◌≡◌, ◌⊎◌, ℤ, ◌+◌, ◌≤ℤ◌, List, [], ◌∷◌, ◌++◌, length, arith, inl, inr, refl, ◌∙◌}
use Rattle.std.specs.Int.{int_max, int_min}
use Rattle.std.specs.List.{Any}
use Rattle.std.proofs.lemmas.Int.{ints}
use Rattle.std.proofs.lemmas.List.Elements.{All-append, All-cons, All-nil}
use Rattle.std.proofs.lemmas.List.{get_or-append-add, get_or_append_left, length-append}
use Rattle.std.proofs.lemmas.List.Quantifiers.{Any-push}
use Rattle.mapping.specs.Boxes.{HasPoint, IsBoxOver, IsTight, point_box}
use Rattle.mapping.specs.declared.geometry.Point.{Point}
use Rattle.mapping.specs.declared.geometry.Rect.{Rect}

-- what some element of a list has, some has of two laid together
any_first : (P : Point → Type 0) (points others : List Point) → Any P points → Any P (points ++ others)
any_first P points others (k, x, below, at, holds) =
    let longer = length-append points others in
    (k, x, omega (arith, below, longer), get_or_append_left points others x k below ∙ at, holds)

any_second : (P : Point → Type 0) (points others : List Point) → Any P others → Any P (points ++ others)
any_second P points others (k, x, below, at, holds) =
    let longer = length-append points others in
    (length points + k, x, omega (arith, below, longer), get_or-append-add points others k x ∙ at, holds)

-- a side of two values is one of the first list's or of the second's
side_of : (part : Point → ℤ) (points others : List Point) (side first second : ℤ) → (side ≡ first) ⊎ (side ≡ second)
    → Any (λ p. part p ≡ first) points → Any (λ p. part p ≡ second) others → Any (λ p. part p ≡ side) (points ++ others)
side_of part points others side first second is some other = elim is [
  | inl same ↦ rw same (any_first (λ p. part p ≡ first) points others some)
  | inr same ↦ rw same (any_second (λ p. part p ≡ second) points others other)
]

-- the lesser and the greater of two are one of them
pub lesser_is : (v w : ℤ) → (int_min v w ≡ v) ⊎ (int_min v w ≡ w)
lesser_is v w = grind (arith, ints)

pub greater_is : (v w : ℤ) → (int_max v w ≡ v) ⊎ (int_max v w ≡ w)
greater_is v w = grind (arith, ints)

low_first : (v w : ℤ) → int_min v w ≤ℤ v
low_first v w = grind (arith, ints)

low_second : (v w : ℤ) → int_min v w ≤ℤ w
low_second v w = grind (arith, ints)

high_first : (v w : ℤ) → v ≤ℤ int_max v w
high_first v w = grind (arith, ints)

high_second : (v w : ℤ) → w ≤ℤ int_max v w
high_second v w = grind (arith, ints)

module _ (first second both : Rect) (is : IsBoxOver first second both) where
  -- the box has what the first had, and the second
  has_first : (point : Point) → HasPoint first point → HasPoint both point
  has_first point has =
      let left = has.left in let top = has.top in let right = has.right in let bottom = has.bottom in
      let l = low_first first.l second.l in let t = low_first first.t second.t in let r = high_first first.r second.r in let b = high_first first.b second.b in
      rw (is.left, is.top, is.right, is.bottom)
      (record { left = omega (arith, ints, left, l); top = omega (arith, ints, top, t); right = omega (arith, ints, right, r); bottom = omega (arith, ints, bottom, b) })

  has_second : (point : Point) → HasPoint second point → HasPoint both point
  has_second point has =
      let left = has.left in let top = has.top in let right = has.right in let bottom = has.bottom in
      let l = low_second first.l second.l in let t = low_second first.t second.t in let r = high_second first.r second.r in let b = high_second first.b second.b in
      rw (is.left, is.top, is.right, is.bottom)
      (record { left = omega (arith, ints, left, l); top = omega (arith, ints, top, t); right = omega (arith, ints, right, r); bottom = omega (arith, ints, bottom, b) })

  pub joins_over : (points others : List Point) → IsTight first points → IsTight second others → IsTight both (points ++ others)
  joins_over points others tight other = record {
    all = All-append (HasPoint both) points others (λ k d below. has_first _ (tight.all k d below)) (λ k d below. has_second _ (other.all k d below));
    left = side_of (λ p. p.x) points others both.l first.l second.l (rw is.left (lesser_is first.l second.l)) tight.left other.left;
    top = side_of (λ p. p.y) points others both.t first.t second.t (rw is.top (lesser_is first.t second.t)) tight.top other.top;
    right = side_of (λ p. p.x) points others both.r first.r second.r (rw is.right (greater_is first.r second.r)) tight.right other.right;
    bottom = side_of (λ p. p.y) points others both.b first.b second.b (rw is.bottom (greater_is first.b second.b)) tight.bottom other.bottom;
  }

-- the box of one point is its least
pub single_tight : (point : Point) → IsTight (point_box point) (point ∷ [])
single_tight point =
    let here = λ (P : Point → Type 0) (holds : P point). Any-push P [] point holds in
    record {
      all = All-cons (HasPoint (point_box point)) point [] (record { left = omega (arith, ints); top = omega (arith, ints); right = omega (arith, ints); bottom = omega (arith, ints) }) (All-nil (HasPoint (point_box point)));
      left = here (λ p. p.x ≡ point.x) refl;
      top = here (λ p. p.y ≡ point.y) refl;
      right = here (λ p. p.x ≡ point.x) refl;
      bottom = here (λ p. p.y ≡ point.y) refl;
    }
