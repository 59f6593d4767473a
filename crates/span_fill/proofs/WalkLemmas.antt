-- A walk that is moved stands one step further, and where it stands is a pixel of its line.
use Rattle.std.proofs.Common.{◌≡◌, ℕ, suc, ◌+◌, ◌<◌, ◌≤◌, Bool, ℤ, pos, negsuc, ◌+ℤ◌, ◌-ℤ◌, ◌*ℤ◌, ◌≤ℤ◌, ◌<ℤ◌, true, false, arith, ap, sym, subst, ◌∙◌}
use Rattle.std.specs.Prelude.{int_lt}
use Rattle.std.proofs.Math.IntN.{suc_ℤ-*ℤ}
use Rattle.std.proofs.lemmas.Int.{ints, by_lt_z}
use Rattle.span_fill.specs.Axis.{ahead}
use Rattle.span_fill.specs.Strokes.{far, is_along, is_towards}
use Rattle.span_fill.specs.Walks.{IsAt, IsMoved}
use Rattle.span_fill.specs.declared.walk.Walk.{Walk}
use Rattle.mapping.proofs.Products.{mul_add, mul_one}
use Rattle.span_fill.proofs.StepLemmas.{IsNearest, along_from, far_up, far_down, towards_up, towards_down}

one_ahead : (forwards : Bool) (u : ℤ) (step : ℕ) → ahead forwards (ahead forwards u step) 1 ≡ ahead forwards u (suc step)
one_ahead true u step = omega (arith, ints)
one_ahead false u step = omega (arith, ints)

-- what is divided at the next step
next_divided : (step long : ℕ) (short place across : ℤ) (rest next : ℕ) →
    pos 2 *ℤ (pos step *ℤ short) +ℤ pos long ≡ pos 2 *ℤ (pos long *ℤ place) +ℤ pos rest →
    pos next ≡ pos rest +ℤ pos 2 *ℤ short -ℤ pos 2 *ℤ (pos long *ℤ across) →
    pos 2 *ℤ (pos (suc step) *ℤ short) +ℤ pos long ≡ pos 2 *ℤ (pos long *ℤ (place +ℤ across)) +ℤ pos next
next_divided step long short place across rest next divided moved =
    omega (arith, ints, suc_ℤ-*ℤ (pos step) short, mul_add (pos long) place across, divided, moved)

moved_kept : (u0 v0 u1 v1 : ℤ) (step : ℕ) (old new : Walk) → old.rest + old.more < old.full → IsAt u0 v0 u1 v1 step old → IsMoved old new → IsAt u0 v0 u1 v1 (suc step) new
moved_kept u0 v0 u1 v1 step old new under at moved =
    let same = moved.same in
    let there = moved.kept under in
    let long = far u0 u1 in
    let place : new.v -ℤ v0 ≡ (old.v -ℤ v0) +ℤ old.back = omega (arith, ints, there.0) in
    let next : pos new.rest ≡ pos old.rest +ℤ pos 2 *ℤ (v1 -ℤ v0) -ℤ pos 2 *ℤ (pos long *ℤ old.back) = omega (arith, ints, there.1, at.moves) in
    let divided = next_divided step long (v1 -ℤ v0) (old.v -ℤ v0) old.back old.rest new.rest at.divided next in
    record {
      forwards = same.forwards ∙ at.forwards;
      u = moved.u ∙ ap (λ w. ahead old.forwards w 1) at.u ∙ one_ahead old.forwards u0 step ∙ ap (λ b. ahead b u0 (suc step)) (sym same.forwards);
      full = same.full ∙ at.full;
      moves = ap pos same.more ∙ at.moves ∙ ap (λ b. pos 2 *ℤ (v1 -ℤ v0) -ℤ pos 2 *ℤ (pos long *ℤ b)) (sym same.back);
      more_within = omega (arith, same.more, same.full, at.more_within);
      back_low = subst (λ (b : ℤ). negsuc 0 ≤ℤ b) (sym same.back) at.back_low;
      back_high = subst (λ (b : ℤ). b ≤ℤ pos 0) (sym same.back) at.back_high;
      divided = divided ∙ ap (λ p. pos 2 *ℤ (pos long *ℤ p) +ℤ pos new.rest) (sym place);
      rest_below = omega (arith, there.1, under, same.full);
      v_low = omega (arith, ints, there.0, at.v_low, at.back_low);
      v_high = omega (arith, ints, there.0, at.v_high, at.back_high);
    }

moved_carried : (u0 v0 u1 v1 : ℤ) (step : ℕ) (old new : Walk) → old.full ≤ old.rest + old.more → IsAt u0 v0 u1 v1 step old → IsMoved old new → IsAt u0 v0 u1 v1 (suc step) new
moved_carried u0 v0 u1 v1 step old new over at moved =
    let same = moved.same in
    let there = moved.carried over in
    let long = far u0 u1 in
    let place : new.v -ℤ v0 ≡ (old.v -ℤ v0) +ℤ (old.back +ℤ pos 1) = omega (arith, ints, there.0) in
    let more_back = mul_add (pos long) old.back (pos 1) in
    let once = mul_one (pos long) in
    let next : pos new.rest ≡ pos old.rest +ℤ pos 2 *ℤ (v1 -ℤ v0) -ℤ pos 2 *ℤ (pos long *ℤ (old.back +ℤ pos 1)) = omega (arith, ints, there.1, at.moves, at.full, more_back, once) in
    let divided = next_divided step long (v1 -ℤ v0) (old.v -ℤ v0) (old.back +ℤ pos 1) old.rest new.rest at.divided next in
    record {
      forwards = same.forwards ∙ at.forwards;
      u = moved.u ∙ ap (λ w. ahead old.forwards w 1) at.u ∙ one_ahead old.forwards u0 step ∙ ap (λ b. ahead b u0 (suc step)) (sym same.forwards);
      full = same.full ∙ at.full;
      moves = ap pos same.more ∙ at.moves ∙ ap (λ b. pos 2 *ℤ (v1 -ℤ v0) -ℤ pos 2 *ℤ (pos long *ℤ b)) (sym same.back);
      more_within = omega (arith, same.more, same.full, at.more_within);
      back_low = subst (λ (b : ℤ). negsuc 0 ≤ℤ b) (sym same.back) at.back_low;
      back_high = subst (λ (b : ℤ). b ≤ℤ pos 0) (sym same.back) at.back_high;
      divided = divided ∙ ap (λ p. pos 2 *ℤ (pos long *ℤ p) +ℤ pos new.rest) (sym place);
      rest_below = omega (arith, there.1, at.rest_below, at.more_within, same.full);
      v_low = omega (arith, ints, there.0, at.v_low, at.back_low);
      v_high = omega (arith, ints, there.0, at.v_high, at.back_high);
    }

by_le : {P : Type 0} (a b : ℕ) → (a < b → P) → (b ≤ a → P) → P
by_le a b f g = by_lt_z (pos a) (pos b) (λ h. f (omega (arith, ints, h))) (λ h. g (omega (arith, ints, h)))

pub moved_at : (u0 v0 u1 v1 : ℤ) (step : ℕ) (old new : Walk) → IsAt u0 v0 u1 v1 step old → IsMoved old new → IsAt u0 v0 u1 v1 (suc step) new
moved_at u0 v0 u1 v1 step old new at moved =
    by_le (old.rest + old.more) old.full
    (λ under. moved_kept u0 v0 u1 v1 step old new under at moved)
    (λ over. moved_carried u0 v0 u1 v1 step old new over at moved)

-- the coordinate of a step is one of the line's, and is so far from its first
ahead_by : (a b : ℤ) (step : ℕ) (forwards : Bool) → forwards ≡ int_lt a b → step < far a b → (is_towards a b (ahead forwards a step) ≡ true) × (far a (ahead forwards a step) ≡ step)
ahead_by a b step true e k =
    let up : a <ℤ b = grind (arith, ints, e) in
    let whole = far_up a b (omega (arith, ints, up)) in
    let there = far_up a (a +ℤ pos step) (omega (arith, ints)) in
    (towards_up a b (a +ℤ pos step) (omega (arith, ints)) (omega (arith, ints, whole, k)), omega (arith, ints, there))
ahead_by a b step false e k =
    let down : b ≤ℤ a = grind (arith, ints, e) in
    let whole = far_down a b down in
    let there = far_down a (a -ℤ pos step) (omega (arith, ints)) in
    (towards_down a b (a -ℤ pos step) (omega (arith, ints, whole, k)) (omega (arith, ints)), omega (arith, ints, there))

-- where a walk stands is a pixel of its line, and the one of that step
pub walk_step : (u0 v0 u1 v1 : ℤ) (step : ℕ) (walk : Walk) → IsAt u0 v0 u1 v1 step walk → step < far u0 u1 → far u0 walk.u ≡ step
walk_step u0 v0 u1 v1 step walk at k = ap (far u0) at.u ∙ (ahead_by u0 u1 step walk.forwards at.forwards k).1

pub walk_along : (u0 v0 u1 v1 : ℤ) (step : ℕ) (walk : Walk) → IsAt u0 v0 u1 v1 step walk → step < far u0 u1 → is_along u0 v0 u1 v1 walk.u walk.v ≡ true
walk_along u0 v0 u1 v1 step walk at k =
    let towards = subst (λ (u : ℤ). is_towards u0 u1 u ≡ true) (sym at.u) (ahead_by u0 u1 step walk.forwards at.forwards k).0 in
    let divided = at.divided in
    let full = at.full in
    let below = at.rest_below in
    let near : IsNearest (far u0 u1) (v1 -ℤ v0) step (walk.v -ℤ v0) = record { low = omega (arith, ints, divided); high = omega (arith, ints, divided, full, below) } in
    along_from u0 v0 u1 v1 walk.u walk.v towards (subst (λ (n : ℕ). IsNearest (far u0 u1) (v1 -ℤ v0) n (walk.v -ℤ v0)) (sym (walk_step u0 v0 u1 v1 step walk at k)) near)
