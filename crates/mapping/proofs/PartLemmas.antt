-- The numbers of parts.
use Rattle.std.proofs.Common.{◌≡◌, ◌⊎◌, ℕ, ◌*◌, ◌^◌, ◌≤◌, ℤ, pos, ◌+ℤ◌, ◌-ℤ◌, ◌*ℤ◌, Bool, true, false, ◌&&◌, if◌then◌else◌, List, [], ◌∷◌, arith, inl, inr, refl, sym, ap, ◌∙◌}
use Rattle.std.specs.Prelude.{max, nat_le, unsigned_abs, ◌/◌}
use Rattle.std.specs.List.{list_all}
use Rattle.std.proofs.Math.Nat.{mul-div-mul_right, mul_assoc, mul_comm}
use Rattle.std.proofs.lemmas.Bool.{and_parts, leb-true}
use Rattle.std.proofs.lemmas.Int.{ints}
use Rattle.std.proofs.lemmas.Nat.{mul-le}
use Rattle.mapping.specs.Floor.{floor_div}
use Rattle.mapping.specs.Limits.{IsFrameSide}
use Rattle.mapping.specs.Nibs.{scaled_width}
use Rattle.mapping.specs.PageMap.{axis_in_parts}
use Rattle.mapping.specs.Parts.{PartLaws, fine_parts, first_fine, part_counts}
use Rattle.mapping.specs.Plane.{AxisNumbers, plane_coordinate}
use Rattle.mapping.specs.declared.geometry.Frame.{Frame}

-- what holds of both numbers holds of the chosen one
either : (b : Bool) (m r : ℕ) (P : ℕ → Type 0) → (b ≡ true → P m) → P r → P (if b then m else r)
either true m r P p q = p refl
either false m r P p q = q

-- the number of parts is 1, or the side isn't too long in parts
fits : (side : ℕ) (counts : List ℕ) → (first_fine side counts ≡ 1) ⊎ (first_fine side counts * side ≤ 2 ^ 20)
fits side [] = inl refl
fits side (parts ∷ fewer) = either (nat_le (parts * side) (2 ^ 20)) parts (first_fine side fewer) (λ n. (n ≡ 1) ⊎ (n * side ≤ 2 ^ 20)) (λ h. inr (leb-true _ _ h)) (fits side fewer)

-- it is one of the numbers, or 1
abbrev is_count : ℕ → Bool
is_count n = nat_le 1 n && nat_le n 4096

allowed : (side : ℕ) (counts : List ℕ) → list_all is_count counts ≡ true → (1 ≤ first_fine side counts) × (first_fine side counts ≤ 4096)
allowed side [] all = (omega arith, omega arith)
allowed side (parts ∷ fewer) all =
    let here = and_parts (is_count parts) (list_all is_count fewer) all in
    let both = and_parts (nat_le 1 parts) (nat_le parts 4096) here.0 in
    either (nat_le (parts * side) (2 ^ 20)) parts (first_fine side fewer) (λ n. (1 ≤ n) × (n ≤ 4096)) (λ h. (leb-true _ _ both.0, leb-true _ _ both.1)) (allowed side fewer here.1)

counts_of : (frame : Frame) → (1 ≤ fine_parts frame.width frame.height) × (fine_parts frame.width frame.height ≤ 4096)
counts_of frame = allowed (max frame.width frame.height) part_counts refl

-- a side no longer than the longer one is within the limits in parts
side_fits : (side longer parts : ℕ) → IsFrameSide side → side ≤ longer → 1 ≤ parts → (parts ≡ 1) ⊎ (parts * longer ≤ 2 ^ 20) → IsFrameSide (side * parts)
side_fits side longer parts allowed short some fits =
    let least : 1 * 1 ≤ side * parts = mul-le _ _ _ _ allowed.not_empty some in
    record {
      not_empty = omega (arith, least);
      within = elim fits [
        | inl one ↦ rw one (omega (arith, allowed.within))
        | inr below ↦ let product : side * parts ≤ longer * parts = mul-le _ _ _ _ short (omega arith) in omega (arith, product, below)
      ];
    }

times_one : (m : ℤ) → m *ℤ pos 1 ≡ m
times_one m = omega (arith, ints)

-- what is scaled is moved on, and back by the corner
regrouped : (q v k : ℤ) → q +ℤ (v -ℤ k) ≡ q +ℤ v -ℤ k
regrouped q v k = omega (arith, ints)

pub one_part : (n : AxisNumbers) (v : ℤ) → n.parts ≡ 1 → plane_coordinate n v ≡ floor_div ((v -ℤ n.window_origin) *ℤ n.viewport_extent) n.window_extent +ℤ n.viewport_origin -ℤ n.corner
one_part n v one =
    let away = v -ℤ n.window_origin in
    let shift = n.viewport_origin -ℤ n.corner in
    let distance : away *ℤ pos n.parts ≡ away = ap (λ (p : ℕ). away *ℤ pos p) one ∙ times_one away in
    let moved : shift *ℤ pos n.parts ≡ shift = ap (λ (p : ℕ). shift *ℤ pos p) one ∙ times_one shift in
    ap (λ (d : ℤ). floor_div (d *ℤ n.viewport_extent) n.window_extent +ℤ shift *ℤ pos n.parts) distance
    ∙ ap (λ (m : ℤ). floor_div (away *ℤ n.viewport_extent) n.window_extent +ℤ m) moved
    ∙ regrouped _ n.viewport_origin n.corner

one_part_nib : (width : ℕ) (n : AxisNumbers) (surface_side frame_side : ℕ) → n.parts ≡ 1 → scaled_width width n surface_side frame_side ≡ width * unsigned_abs n.viewport_extent * surface_side / (unsigned_abs n.window_extent * frame_side)
one_part_nib width n surface_side frame_side one =
    let side : n.parts * surface_side ≡ surface_side = rw one (omega arith) in
    ap (λ (s : ℕ). width * unsigned_abs n.viewport_extent * s / (unsigned_abs n.window_extent * frame_side)) side

-- a factor of both the dividend and the divisor
same_nib : (width parts : ℕ) (n : AxisNumbers) (surface_side frame_side : ℕ) → n.parts ≡ 1 → 1 ≤ parts → scaled_width width (axis_in_parts parts n) surface_side (frame_side * parts) ≡ scaled_width width n surface_side frame_side
same_nib width parts n surface_side frame_side one some =
    let viewport = unsigned_abs n.viewport_extent in
    let window = unsigned_abs n.window_extent in
    let length = width * viewport in
    let dividend : length * (parts * surface_side) ≡ length * surface_side * parts = ap (λ (k : ℕ). length * k) (mul_comm parts surface_side) ∙ sym (mul_assoc length surface_side parts) in
    let divisor : window * (frame_side * parts) ≡ window * frame_side * parts = sym (mul_assoc window frame_side parts) in
    ap (λ (k : ℕ). k / (window * (frame_side * parts))) dividend ∙ ap (λ (k : ℕ). length * surface_side * parts / k) divisor
    ∙ mul-div-mul_right (length * surface_side) (window * frame_side) some
    ∙ sym (one_part_nib width n surface_side frame_side one)

pub part_laws : PartLaws
part_laws = record {
  some = λ frame. (counts_of frame).0;
  few = λ frame. (counts_of frame).1;
  wide = λ frame. side_fits frame.width (max frame.width frame.height) (fine_parts frame.width frame.height) frame.wide (omega arith) (counts_of frame).0 (fits (max frame.width frame.height) part_counts);
  high = λ frame. side_fits frame.height (max frame.width frame.height) (fine_parts frame.width frame.height) frame.high (omega arith) (counts_of frame).0 (fits (max frame.width frame.height) part_counts);
  short = λ frame. fits (max frame.width frame.height) part_counts;
  one_part = one_part;
  one_part_nib = one_part_nib;
  same_nib = same_nib;
}
