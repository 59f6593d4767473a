-- Placing keeps the order of coordinates, and on a smaller surface lands nearer to 0.
use Rattle.std.proofs.Common.{◌≡◌, ◌≢◌, ℕ, suc, ◌≤◌, ℤ, pos, negsuc, ◌*ℤ◌, ◌≤ℤ◌, arith, ap, sym, subst}
use Rattle.std.proofs.Math.Nat.{mul-le-mul_left, zero-div}
use Rattle.std.proofs.lemmas.Int.{ints}
use Rattle.mapping.specs.declared.geometry.Point.{Point}
use Rattle.mapping.specs.Floor.{floor_div}
use Rattle.mapping.specs.Limits.{IsWithin, place_limit}
use Rattle.mapping.specs.Surface.{FitsPlace, IsPlaceCoordinate, Surface, lands_from, lands_true, placed, placed_point}
use Rattle.mapping.specs.PlacingLaws.{IsNoLarger, PlacingLaws, ShowsFrame}
use Rattle.mapping.proofs.FloorLemmas.{floor_is_greatest}

le_trans : (a b c : ℤ) → a ≤ℤ b → b ≤ℤ c → a ≤ℤ c
le_trans a b c h k = omega (arith, ints)

-- products with a count keep the order
pub times_count : (v w : ℤ) (n : ℕ) → v ≤ℤ w → (v *ℤ pos n) ≤ℤ (w *ℤ pos n)
times_count (pos a) (pos b) n h = let le : a ≤ b = omega (arith, ints, h) in omega (arith, ints, mul-le-mul_left n le)
times_count (pos a) (negsuc b) n h = absurd (omega (arith, ints, h))
times_count (negsuc a) (pos b) n h = omega (arith, ints)
times_count (negsuc a) (negsuc b) n h = let le : b ≤ a = omega (arith, ints, h) in omega (arith, ints, mul-le-mul_left n le)

-- a number that isn't below 0 grows with what it is multiplied by, and a number below 0 falls
grows : (a m n : ℕ) → m ≤ n → (pos a *ℤ pos m) ≤ℤ (pos a *ℤ pos n)
grows a m n h = omega (arith, ints, mul-le-mul_left a h)

falls : (a m n : ℕ) → m ≤ n → (negsuc a *ℤ pos n) ≤ℤ (negsuc a *ℤ pos m)
falls a m n h = omega (arith, ints, mul-le-mul_left (suc a) h)

pub not_zero : (side : ℕ) → 1 ≤ side → pos side ≢ pos 0
not_zero side h e = omega (arith, ints, h, e)

-- floor division over a side keeps the order
pub quotients : (a b : ℤ) (side : ℕ) → 1 ≤ side → a ≤ℤ b → floor_div a (pos side) ≤ℤ floor_div b (pos side)
quotients a b side one h =
    let lower = floor_is_greatest a (pos side) (not_zero side one) in
    let upper = floor_is_greatest b (pos side) (not_zero side one) in
    upper.greatest (floor_div a (pos side)) (le_trans _ a b lower.not_above h)

quotient_of_0 : (side : ℕ) → floor_div (pos 0) (pos side) ≡ pos 0
quotient_of_0 side = ap pos (zero-div side)

not_below_0 : (a : ℤ) (side : ℕ) → 1 ≤ side → pos 0 ≤ℤ a → pos 0 ≤ℤ floor_div a (pos side)
not_below_0 a side one h = subst (λ (q : ℤ). q ≤ℤ floor_div a (pos side)) (quotient_of_0 side) (quotients (pos 0) a side one h)

not_above_0 : (a : ℤ) (side : ℕ) → 1 ≤ side → a ≤ℤ pos 0 → floor_div a (pos side) ≤ℤ pos 0
not_above_0 a side one h = subst (λ (q : ℤ). floor_div a (pos side) ≤ℤ q) (quotient_of_0 side) (quotients a (pos 0) side one h)

-- a number between 0 and one within a limit is within the limit
nearer_above : (limit : ℕ) (v w : ℤ) → pos 0 ≤ℤ v → v ≤ℤ w → IsWithin limit w → IsWithin limit v
nearer_above limit v w least most h = let high = h.high in record { low = omega (arith, ints); high = omega (arith, ints) }

nearer_below : (limit : ℕ) (v w : ℤ) → v ≤ℤ pos 0 → w ≤ℤ v → IsWithin limit w → IsWithin limit v
nearer_below limit v w most least h = let low = h.low in record { low = omega (arith, ints); high = omega (arith, ints) }

-- what lands within the limit on a side does so on one that is no longer
axis_on_smaller : (v : ℤ) (m n side : ℕ) → 1 ≤ side → m ≤ n → IsPlaceCoordinate (placed v n side) → IsPlaceCoordinate (placed v m side)
axis_on_smaller (pos a) m n side one h k =
    nearer_above place_limit _ _ (not_below_0 (pos a *ℤ pos m) side one (omega (arith, ints))) (quotients (pos a *ℤ pos m) (pos a *ℤ pos n) side one (grows a m n h)) k
axis_on_smaller (negsuc a) m n side one h k =
    nearer_below place_limit _ _ (not_above_0 (negsuc a *ℤ pos m) side one (omega (arith, ints))) (quotients (negsuc a *ℤ pos n) (negsuc a *ℤ pos m) side one (falls a m n h)) k

-- the same where the side of the frame is named twice
axis_lands : (v : ℤ) (m n side other : ℕ) → 1 ≤ other → m ≤ n → side ≡ other → IsPlaceCoordinate (placed v n other) → IsPlaceCoordinate (placed v m side)
axis_lands v m n side other one h e k = subst (λ (f : ℕ). IsPlaceCoordinate (placed v m f)) (sym e) (axis_on_smaller v m n other one h k)

point_lands : (point : Point) (smaller larger : Surface) → ShowsFrame larger → IsNoLarger smaller larger → FitsPlace (placed_point point larger) → FitsPlace (placed_point point smaller)
point_lands point smaller larger shows no_larger fits = record {
  x = axis_lands point.x smaller.width larger.width smaller.frame_width larger.frame_width shows.wide.not_empty no_larger.width no_larger.frame_width fits.x;
  y = axis_lands point.y smaller.height larger.height smaller.frame_height larger.frame_height shows.high.not_empty no_larger.height no_larger.frame_height fits.y;
}

pub placing_laws : PlacingLaws
placing_laws = record {
  keeps_order = λ side frame_side v w allowed h. quotients (v *ℤ pos side) (w *ℤ pos side) frame_side allowed.not_empty (times_count v w side h);
  lands_on_smaller = λ point smaller larger shows no_larger t.
      let lands = lands_true point larger t in
      lands_from point smaller (record { plane = lands.plane; place = point_lands point smaller larger shows no_larger lands.place });
}
