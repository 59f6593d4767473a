-- The step here, and the one behind it.
use Rattle.std.proofs.Common.{◌≡◌, ℕ, suc, ◌^◌, ◌<◌, ◌≤◌, ℤ, pos, ◌+ℤ◌, ◌*ℤ◌, ◌≤ℤ◌, ◌<ℤ◌, ◌∙◌, ap, arith, refl, rules, subst, sym, FitsSigned, to_z, of_z}
use Rattle.std.specs.Int.{w32, w64}
use Rattle.std.proofs.lemmas.Int.{ints, to_z-of_z}
use Rattle.mapping.specs.Limits.{IsWithin}
use Rattle.span_fill.specs.FixedWalks.{CanWalk}
use Rattle.span_fill.specs.MajorLines.{pixel_column, pixel_row}
use Rattle.span_fill.specs.Numberings.{number_of}
use Rattle.span_fill.specs.StepsInside.{AreSteps}
use Rattle.span_fill.specs.declared.steps.LineSteps.TheInside.{Inside}
use Rattle.span_fill.proofs.FixedWalkLemmas.{Advances, advances, few_after, few_steps, fraction_below, gain_small, whole_is}
use Rattle.span_fill.proofs.NumberingLemmas.{near_numbers, number_across, renumbered}
use Rattle.span_fill.proofs.StepsLemmas.{here_can_walk, here_pixel, next_way}
use Rattle.span_fill.proofs.steps.LineSteps.take.Goals as goal

-- a number in its 64 bits, and in its 32
in_words : (z : ℤ) → FitsSigned w64 z → to_z w64 (of_z w64 z) ≡ z
in_words z fits = simp to_z-of_z

in_word : (z : ℤ) → FitsSigned w32 z → to_z w32 (of_z w32 z) ≡ z
in_word z fits = simp to_z-of_z

-- what holds of a position from which a step is taken
module _ (steps : Inside) (are : AreSteps steps) (more : steps.next < steps.end) where
  can : CanWalk are.walk
  can = here_can_walk steps.line steps.region steps.y_major steps.next steps.end are.walk are.way more

  few : are.taken ≤ 8192
  few = few_steps are.taken are.walk (are.few more) can.on

  below : (are.fixed more).part < 2 ^ 48
  below = fraction_below are.taken are.walk steps.position (are.fixed more) can few

  at_low : pos 0 ≤ℤ steps.position.at
  at_low = let at = (are.fixed more).at in let low = can.on.v_low in omega (arith, ints, at, low)

  at_high : steps.position.at <ℤ pos (2 ^ 61)
  at_high = let at = (are.fixed more).at in let high = can.on.v_high in let part = below in omega (arith, ints, at, high, part)

  each_near : IsWithin (2 ^ 61) steps.position.each
  each_near =
      let each = (are.fixed more).each in
      let gain = gain_small are.taken are.walk steps.position (are.fixed more) can in
      record { low = omega (arith, ints, each, can.back_low); high = omega (arith, ints, each, can.back_high, gain) }

  u_low : pos 0 ≤ℤ steps.position.u
  u_low = let u = (are.fixed more).u in let low = can.on.u_low in omega (arith, ints, u, low)

  u_high : steps.position.u <ℤ pos 8192
  u_high = let u = (are.fixed more).u in let high = can.on.u_high in omega (arith, ints, u, high)

  -- the whole coordinate is the walk's
  v_is : (n : ℕ) → (pos n *ℤ pos (2 ^ 48)) ≤ℤ steps.position.at → steps.position.at <ℤ ((pos n +ℤ pos 1) *ℤ pos (2 ^ 48)) → are.walk.v ≡ pos n
  v_is n low high = whole_is are.walk.v (are.fixed more).part n steps.position.at (are.fixed more).at below low high

pub v-v-requires : goal.v-v-requires
v-v-requires c =
    let more = rw (← c.self.view_is) at c.requires in
    let low = at_low c.self.inside c.self.invariant more in
    let high = at_high c.self.inside c.self.invariant more in
    record { low = low; high = omega (arith, ints, high) }

pub pixel_at-requires : goal.pixel_at-requires
pixel_at-requires c =
    let here = c.self.inside in
    let more = rw (← c.self.view_is) at c.requires in
    let fits : FitsSigned w32 here.position.u = search rules in
    subst (λ (n : ℤ). pos 0 ≤ℤ n) (sym (in_word here.position.u fits)) (u_low here c.self.invariant more)

pub at-requires : goal.at-requires
at-requires c =
    let here = c.self.inside in
    let more = rw (← c.self.view_is) at c.requires in
    let are = c.self.invariant in
    let numbers = near_numbers here.grid here.y_major here.position here.numbering (are.numbers more) (u_low here are more) (u_high here are more) in
    let v = v_is here are more c.v-v.result c.v-v.ensures.low c.v-v.ensures.high in
    let high = (can here are more).on.v_high in
    record { number = numbers.number; across = numbers.across; v = omega (arith, ints, v, high) }

pub advanced-self-inside-requires : goal.advanced-self-inside-requires
advanced-self-inside-requires c =
    let here = c.self.inside in
    let more = rw (← c.self.view_is) at c.requires in
    let are = c.self.invariant in
    let u_least = u_low here are more in
    let u_most = u_high here are more in
    let at_least = at_low here are more in
    let at_most = at_high here are more in
    record {
      u = record { low = omega (arith, ints, u_least); high = omega (arith, ints, u_most) };
      at = record { low = omega (arith, ints, at_least); high = omega (arith, ints, at_most) };
      each = each_near here are more;
    }

pub moved-self-inside-requires : goal.moved-self-inside-requires
moved-self-inside-requires c =
    let here = c.self.inside in
    let more = rw (← c.self.view_is) at c.requires in
    let are = c.self.invariant in
    let numbers = near_numbers here.grid here.y_major here.position here.numbering (are.numbers more) (u_low here are more) (u_high here are more) in
    record { number = numbers.number; along = numbers.along }

pub invariant_of-self : goal.invariant_of-self
invariant_of-self c =
    let here = c.self.inside in
    let more = rw (← c.self.view_is) at c.requires in
    let are = c.self.invariant in
    let next : Advances here.position c.advanced-self-inside.result = record {
      u = c.advanced-self-inside.ensures.u;
      at = c.advanced-self-inside.ensures.at;
      each = c.advanced-self-inside.ensures.each;
      forwards = c.advanced-self-inside.ensures.forwards;
    } in
    let has = advances are.taken are.walk here.position c.advanced-self-inside.result (are.fixed more) (can here are more) (few here are more) next in
    record {
      walk = has.next;
      taken = suc are.taken;
      way = next_way here.line here.region here.y_major here.next here.end are.walk has.next are.way more has.moved;
      fixed = λ h. has.fixed;
      few = λ h. few_after are.taken are.walk has.next has.moved (are.few more);
      numbers = λ h. renumbered here.grid here.y_major here.position c.advanced-self-inside.result here.numbering c.moved-self-inside.result (are.numbers more) next c.moved-self-inside.ensures.number c.moved-self-inside.ensures.along c.moved-self-inside.ensures.across;
    }

pub returns : goal.returns
returns c =
    let here = c.self.inside in
    let more = rw (← c.self.view_is) at c.requires in
    let are = c.self.invariant in
    let fixed = are.fixed more in
    let numbers = are.numbers more in
    let n = c.v-v.result in
    let v = v_is here are more n c.v-v.ensures.low c.v-v.ensures.high in
    let u_fits : FitsSigned w32 here.position.u = search rules in
    let fits : FitsSigned w64 c.at.result = search rules in
    let x : pos c.pixel_at.result.x ≡ pixel_column here.y_major here.position.u (pos n) = c.pixel_at.ensures.x ∙ ap (λ (u : ℤ). pixel_column here.y_major u (pos n)) (in_word here.position.u u_fits) in
    let y : pos c.pixel_at.result.y ≡ pixel_row here.y_major here.position.u (pos n) = c.pixel_at.ensures.y ∙ ap (λ (u : ℤ). pixel_row here.y_major u (pos n)) (in_word here.position.u u_fits) in
    let column = x ∙ ap (λ (u : ℤ). pixel_column here.y_major u (pos n)) fixed.u ∙ ap (λ (w : ℤ). pixel_column here.y_major are.walk.u w) (sym v) in
    let row = y ∙ ap (λ (u : ℤ). pixel_row here.y_major u (pos n)) fixed.u ∙ ap (λ (w : ℤ). pixel_row here.y_major are.walk.u w) (sym v) in
    let given = here_pixel here.line here.region here.y_major here.next here.end are.walk c.pixel_at.result are.way more column row in
    let first = numbers.number in
    let across = ap (λ (w : ℤ). pos n *ℤ w) numbers.across in
    let whole = number_across here.grid here.y_major here.position.u (pos n) in
    let at = c.at.ensures in
    let number : c.at.result ≡ number_of here.grid (pixel_column here.y_major here.position.u (pos n)) (pixel_row here.y_major here.position.u (pos n)) = omega (arith, ints, first, across, whole, at) in
    rw (← c.self.view_is) (record {
      takes = record {
        more = more;
        given = given;
        next = omega arith;
        same = record { line = refl; region = refl; grid = refl; end = refl };
      };
      number = in_words c.at.result fits ∙ number ∙ ap (λ (w : ℤ). number_of here.grid (pixel_column here.y_major here.position.u (pos n)) w) (sym y) ∙ ap (λ (w : ℤ). number_of here.grid w (pos c.pixel_at.result.y)) (sym x);
    })
