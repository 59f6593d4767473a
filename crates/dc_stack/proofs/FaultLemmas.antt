-- The faults that depend on the surface, on several surfaces.
use Rattle.std.proofs.Common.{◌≡◌, ◌≢◌, ◌⊎◌, inl, inr, ℕ, ◌≤◌, Bool, true, false, ◌&&◌, nat_le, if◌then◌else◌, List, [], ◌∷◌, Option, Some, None, arith, refl, ap, sym, ◌∙◌}
use Rattle.std.proofs.lemmas.Bool.{and_from, and_parts}
use Rattle.std.specs.List.{list_all}
use Rattle.std.specs.Option.{option_or}
use Rattle.mapping.specs.Nibs.{CoversNib, IsNib, NibLaws, is_nib, nib_from, nib_of, nib_true}
use Rattle.mapping.specs.Plane.{MapNumbers}
use Rattle.mapping.specs.declared.geometry.Point.{Point}
use Rattle.mapping.specs.PlacingLaws.{IsNoLarger, PlacingLaws, ShowsFrame}
use Rattle.mapping.specs.Surface.{Surface, lands_within_limits}
use Rattle.draw_ops.specs.Operation.{Operation}
use Rattle.draw_ops.specs.declared.record_fault.RecordFault.{RecordFault}
use Rattle.draw_ops.specs.declared.record_fault.RecordFault.TheVariants.{NibTooWide, OffPlane}
use Rattle.dc_stack.specs.Drawing.{Drawing, drawing_nib, drawing_of, stroke_width}
use Rattle.dc_stack.specs.FaultLaws.{FaultLaws}
use Rattle.dc_stack.specs.State.{State}
use Rattle.dc_stack.proofs.LandingLemmas.{off_unless}
use Rattle.dc_stack.specs.OperationFault.{all_land_within, fault_of, nib_fault, plain_fault, plane_points}

-- a nib is no wider than it may be, if there is a drawing
abbrev is_drawable : Option Drawing → Surface → Bool
is_drawable None s = true
is_drawable (Some drawing) s = is_nib (drawing_nib drawing s)

abbrev wide_unless : Bool → Option RecordFault
wide_unless test = if test then None else Some NibTooWide

nib_fault_is : (drawing : Option Drawing) (s : Surface) → nib_fault drawing s ≡ wide_unless (is_drawable drawing s)
nib_fault_is None s = refl
nib_fault_is (Some drawing) s = refl

-- the fault of an operation whose points land or not, and whose nib is narrow enough or not
abbrev fault_by : Option RecordFault → Bool → Bool → Option RecordFault
fault_by plain lands narrow = option_or plain (option_or (off_unless lands) (wide_unless narrow))

-- no other fault comes of points and nibs
no_other : (lands narrow : Bool) (fault : RecordFault) → fault ≢ OffPlane → fault ≢ NibTooWide → fault_by None lands narrow ≡ Some fault → ⊥
no_other true true fault not_off not_wide h = cc
no_other true false fault not_off not_wide h = not_wide cc
no_other false narrow fault not_off not_wide h = not_off cc

other_fault :
    (plain : Option RecordFault) (lands narrow lands_there narrow_there : Bool) (fault : RecordFault)
    → fault ≢ OffPlane → fault ≢ NibTooWide → fault_by plain lands narrow ≡ Some fault → fault_by plain lands_there narrow_there ≡ Some fault
other_fault (Some g) lands narrow lands_there narrow_there fault not_off not_wide h = h
other_fault None lands narrow lands_there narrow_there fault not_off not_wide h = absurd (no_other lands narrow fault not_off not_wide h)

no_fault :
    (plain : Option RecordFault) (lands narrow lands_there narrow_there : Bool) → (lands ≡ true → lands_there ≡ true)
    → (narrow ≡ true → narrow_there ≡ true) → fault_by plain lands narrow ≡ None → fault_by plain lands_there narrow_there ≡ None
no_fault (Some g) lands narrow lands_there narrow_there lands_too narrow_too h = cc
no_fault None true true lands_there narrow_there lands_too narrow_too h = rw (lands_too refl, narrow_too refl) refl
no_fault None true false lands_there narrow_there lands_too narrow_too h = cc
no_fault None false narrow lands_there narrow_there lands_too narrow_too h = cc

-- where the points of no smaller surface land here too, and its nib is no narrower
module _ (lands narrow lands_there narrow_there : Bool) (lands_too : lands_there ≡ true → lands ≡ true) (narrow_too : narrow_there ≡ true → narrow ≡ true) where
  same_fault :
      (plain : Option RecordFault) (fault : RecordFault) → fault ≢ NibTooWide → fault_by plain lands narrow ≡ Some fault
      → fault_by plain lands_there narrow_there ≡ Some fault
  same_fault (Some g) fault not_wide h = h
  same_fault None fault not_wide h = by_landing lands lands_there lands_too h
    where
      by_landing : (here there : Bool) → (there ≡ true → here ≡ true) → fault_by None here narrow ≡ Some fault → fault_by None there narrow_there ≡ Some fault
      by_landing false false too e = e
      by_landing false true too e = absurd (false_is_true (too refl))
        where
          false_is_true : false ≡ true → ⊥
          false_is_true f = cc
      by_landing true there too e = absurd (by_width narrow e)
        where
          by_width : (test : Bool) → wide_unless test ≡ Some fault → ⊥
          by_width true f = cc
          by_width false f = not_wide cc

  too_wide :
      (plain : Option RecordFault) → fault_by plain lands narrow ≡ Some NibTooWide
      → (fault_by plain lands_there narrow_there ≡ Some NibTooWide) ⊎ (fault_by plain lands_there narrow_there ≡ Some OffPlane)
  too_wide (Some g) h = inl h
  too_wide None h = by_tests lands narrow lands_there narrow_there narrow_too h
    where
      by_tests :
          (a b c d : Bool) → (d ≡ true → b ≡ true) → fault_by None a b ≡ Some NibTooWide
          → (fault_by None c d ≡ Some NibTooWide) ⊎ (fault_by None c d ≡ Some OffPlane)
      by_tests false b c d too e = cc
      by_tests true true c d too e = cc
      by_tests true false false d too e = inr refl
      by_tests true false true false too e = inl refl
      by_tests true false true true too e = absurd (false_is_true (too refl))
        where
          false_is_true : false ≡ true → ⊥
          false_is_true f = cc

-- points that land on a surface do so on a smaller one
all_on_smaller : PlacingLaws → (smaller larger : Surface) → ShowsFrame larger → IsNoLarger smaller larger → (points : List Point) → list_all (λ p. lands_within_limits p larger) points ≡ true → list_all (λ p. lands_within_limits p smaller) points ≡ true
all_on_smaller laws smaller larger shows no_larger [] h = refl
all_on_smaller laws smaller larger shows no_larger (p ∷ ps) h =
    let parts = and_parts (lands_within_limits p larger) (list_all (λ q. lands_within_limits q larger) ps) h in
    and_from (lands_within_limits p smaller) (list_all (λ q. lands_within_limits q smaller) ps)
    (laws.lands_on_smaller p smaller larger shows no_larger parts.0) (all_on_smaller laws smaller larger shows no_larger ps parts.1)

-- a nib that is narrow enough on a surface is so on a smaller one
narrow_on_smaller :
    NibLaws → (width : ℕ) (map : MapNumbers) (smaller larger : Surface) → ShowsFrame larger → IsNoLarger smaller larger
    → is_nib (nib_of width map larger) ≡ true → is_nib (nib_of width map smaller) ≡ true
narrow_on_smaller laws width map smaller larger shows no_larger test =
    let large = nib_of width map larger in
    let small = nib_of width map smaller in
    let covers : CoversNib large small = laws.grows width map smaller larger shows no_larger in
    let within : IsNib large = nib_true large test in
    let wide : small.x ≤ 4096 = omega (arith, covers.x, within.x.within) in
    let high : small.y ≤ 4096 = omega (arith, covers.y, within.y.within) in
    nib_from small (record {
      x = record { not_empty = omega arith; within = wide };
      y = record { not_empty = omega arith; within = high };
    })

drawable_on_smaller :
    NibLaws → (drawing : Option Drawing) (smaller larger : Surface) → ShowsFrame larger → IsNoLarger smaller larger
    → is_drawable drawing larger ≡ true → is_drawable drawing smaller ≡ true
drawable_on_smaller laws None smaller larger shows no_larger test = refl
drawable_on_smaller laws (Some drawing) smaller larger shows no_larger test =
    narrow_on_smaller laws (stroke_width drawing) drawing.tools.map smaller larger shows no_larger test

module _ (operation : Operation) (state : State) where
  abbrev lands_on : Surface → Bool
  lands_on s = all_land_within (plane_points operation state) s

  abbrev drawable_on : Surface → Bool
  drawable_on s = is_drawable (drawing_of operation state) s

  fault_is : (s : Surface) → fault_of operation state s ≡ fault_by (plain_fault operation state) (lands_on s) (drawable_on s)
  fault_is s = ap (λ nib. option_or (plain_fault operation state) (option_or (off_unless (lands_on s)) nib)) (nib_fault_is (drawing_of operation state) s)

  module _ (placing : PlacingLaws) (nibs : NibLaws) (smaller larger : Surface) (shows : ShowsFrame larger) (no_larger : IsNoLarger smaller larger) where
    lands_too : lands_on larger ≡ true → lands_on smaller ≡ true
    lands_too = all_on_smaller placing smaller larger shows no_larger (plane_points operation state)

    drawable_too : drawable_on larger ≡ true → drawable_on smaller ≡ true
    drawable_too = drawable_on_smaller nibs (drawing_of operation state) smaller larger shows no_larger

    none_on_smaller : fault_of operation state larger ≡ None → fault_of operation state smaller ≡ None
    none_on_smaller h =
        fault_is smaller
        ∙ no_fault (plain_fault operation state) (lands_on larger) (drawable_on larger) (lands_on smaller) (drawable_on smaller) lands_too drawable_too
        (sym (fault_is larger) ∙ h)

    same_on_larger : (fault : RecordFault) → fault ≢ NibTooWide → fault_of operation state smaller ≡ Some fault → fault_of operation state larger ≡ Some fault
    same_on_larger fault not_wide h =
        fault_is larger
        ∙ same_fault (lands_on smaller) (drawable_on smaller) (lands_on larger) (drawable_on larger) lands_too drawable_too (plain_fault operation state) fault
        not_wide (sym (fault_is smaller) ∙ h)

    too_wide_on_larger :
        fault_of operation state smaller ≡ Some NibTooWide
        → (fault_of operation state larger ≡ Some NibTooWide) ⊎ (fault_of operation state larger ≡ Some OffPlane)
    too_wide_on_larger h =
        rw (fault_is larger)
        (too_wide (lands_on smaller) (drawable_on smaller) (lands_on larger) (drawable_on larger) lands_too drawable_too (plain_fault operation state)
        (sym (fault_is smaller) ∙ h))

pub fault_laws : PlacingLaws → NibLaws → FaultLaws
fault_laws placing nibs = record {
  by_surface = λ operation state s other fault not_off not_wide h.
      fault_is operation state other
      ∙ other_fault (plain_fault operation state) (lands_on operation state s) (drawable_on operation state s) (lands_on operation state other)
      (drawable_on operation state other) fault not_off not_wide (sym (fault_is operation state s) ∙ h);
  none_on_smaller = λ operation state smaller larger shows no_larger. none_on_smaller operation state placing nibs smaller larger shows no_larger;
  same_on_larger = λ operation state smaller larger fault shows no_larger. same_on_larger operation state placing nibs smaller larger shows no_larger fault;
  too_wide_on_larger = λ operation state smaller larger shows no_larger. too_wide_on_larger operation state placing nibs smaller larger shows no_larger;
}
