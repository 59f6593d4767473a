-- Reading along a row from its end.
use Rattle.std.proofs.Common.{◌≡◌, ◌⊎◌, inl, inr, ℕ, ◌+◌, ◌-◌, ◌<◌, ◌≤◌, ℤ, pos, ◌+ℤ◌, ◌≤ℤ◌, List, length, get_or, set, subst, sym, arith}
use Rattle.std.proofs.lemmas.Bool.{cases_order}
use Rattle.std.proofs.lemmas.Grind.{get_or-set_at}
use Rattle.std.proofs.lemmas.Int.{ints}
use Rattle.std.proofs.lemmas.List.{get_or-set_other}
use Rattle.mapping.specs.declared.geometry.Colour.{Colour}
use Rattle.raster_ops.proofs.SourceLemmas.{distance_is}
use Rattle.raster_ops.specs.Sources.{distance}

-- so many places before the last of a part of a side, as far from the side's other end
pub mirrored_at : (near : ℤ) (side to k x : ℕ) → near ≤ℤ pos x → x + k + 1 ≡ to → pos to ≤ℤ (near +ℤ pos side) → side - 1 - distance near (pos (to - 1)) + k ≡ side - 1 - distance near (pos x)
mirrored_at near side to k x low e high =
    let here = distance_is near x low in
    let last = distance_is near (to - 1) (omega (arith, ints, low)) in
    omega (arith, ints, here, last, low, high)

-- one more place from the end on has a colour of which a fact of places and colours holds
module _ (P : ℕ → Colour → Type 0) (out : List Colour) (place : ℕ) (colour : Colour) (to k : ℕ) (at_place : place + k + 1 ≡ to) (capacity : place < length out) (here : P place colour) (before : (x : ℕ) (d : Colour) → to ≤ x + k → x < to → P x (get_or out x d)) where
  by_order : (x : ℕ) (d : Colour) → to ≤ x + (k + 1) → x < to → (x ≡ place) ⊎ ((x < place) ⊎ (place < x)) → P x (get_or (set out place colour) x d)
  by_order x d low high (inl e) = subst (P x) (sym (get_or-set_at out place x colour d e capacity)) (subst (λ (n : ℕ). P n colour) (sym e) here)
  by_order x d low high (inr (inl below)) = absurd (omega arith)
  by_order x d low high (inr (inr above)) = subst (P x) (sym (get_or-set_other out place x colour d (omega arith))) (before x d (omega arith) high)

  pub one_more : (x : ℕ) (d : Colour) → to ≤ x + (k + 1) → x < to → P x (get_or (set out place colour) x d)
  one_more x d low high = by_order x d low high (cases_order x place)
