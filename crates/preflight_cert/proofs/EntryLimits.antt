-- The entries that are prepared for steps without a fault have numbers within their limits.
use Rattle.std.proofs.Common.{◌≡◌, ℕ, suc, ◌+◌, ◌<◌, ◌≤◌, ◌^◌, ℤ, pos, neg_ℤ, ◌≤ℤ◌, FitsSigned, Bool, true, List, [], ◌∷◌, ◌++◌, length, Option, Some, None, arith}
use Rattle.std.specs.Int.{int_max, int_min, w32}
use Rattle.std.specs.List.{All, list_all}
use Rattle.std.proofs.lemmas.Bool.{and_parts}
use Rattle.std.proofs.lemmas.Int.{clamps, fits_signed_from_abs, ints}
use Rattle.std.proofs.lemmas.List.Elements.{All-cons, All-nil}
use Rattle.mapping.specs.Boxes.{point_box}
use Rattle.mapping.specs.Limits.{IsWithin, plane_limit}
use Rattle.mapping.specs.Nibs.{is_nib, nib_true}
use Rattle.mapping.specs.Surface.{Surface, lands_true, lands_within_limits}
use Rattle.mapping.specs.declared.geometry.Point.{Point}
use Rattle.mapping.specs.declared.geometry.Rect.{Rect}
use Rattle.draw_ops.specs.Content.{StepValue}
use Rattle.draw_ops.specs.NumberLaws.{AreNumberedFrom}
use Rattle.draw_ops.specs.declared.record_fault.RecordFault.TheVariants.{NibTooWide, OffPlane}
use Rattle.dc_stack.specs.Drawing.{Drawing, drawing_nib, drawing_of, drawing_points}
use Rattle.dc_stack.specs.Next.{next}
use Rattle.dc_stack.specs.OperationFault.{all_land_within, fault_of, nib_fault, off_plane_fault, place_fault, plain_fault, plane_points, points_drawn}
use Rattle.dc_stack.specs.State.{State}
use Rattle.preflight_cert.specs.Drawings.{NumberedDrawing, drawing_then, drawings_of}
use Rattle.preflight_cert.specs.Gathered.{box_around, box_over, bounding_box, least_entries, least_entry}
use Rattle.preflight_cert.specs.Stop.{Stop, stopped}
use Rattle.preflight_cert.specs.TextLaws.{IsEntry}
use Rattle.preflight_cert.specs.declared.version.Version.TheVariants.{Mpc2}
use Rattle.preflight_cert.proofs.StopLemmas.{none_first, none_here, none_later, none_second, passed}

-- a box whose sides are coordinates of the plane
record IsOfPlane (box : Rect) : Type 0 where
  left : IsWithin plane_limit box.l
  top : IsWithin plane_limit box.t
  right : IsWithin plane_limit box.r
  bottom : IsWithin plane_limit box.b

lesser : (u v : ℤ) → IsWithin plane_limit u → IsWithin plane_limit v → IsWithin plane_limit (int_min u v)
lesser u v a b =
    let ul = a.low in let uh = a.high in let vl = b.low in let vh = b.high in
    record { low = omega (arith, ints, clamps, ul, uh, vl, vh); high = omega (arith, ints, clamps, ul, uh, vl, vh) }

greater : (u v : ℤ) → IsWithin plane_limit u → IsWithin plane_limit v → IsWithin plane_limit (int_max u v)
greater u v a b =
    let ul = a.low in let uh = a.high in let vl = b.low in let vh = b.high in
    record { low = omega (arith, ints, clamps, ul, uh, vl, vh); high = omega (arith, ints, clamps, ul, uh, vl, vh) }

fits : (v : ℤ) → IsWithin plane_limit v → FitsSigned w32 v
unfolding plane_limit
fits v h = let low = h.low in let high = h.high in fits_signed_from_abs w32 v (omega (arith, ints, low, high))

nothing : (v : ℤ) → neg_ℤ (pos 1) ≤ℤ v → v ≤ℤ pos 1 → IsWithin plane_limit v
unfolding plane_limit
nothing v low high = record { low = omega (arith, ints, low); high = omega (arith, ints, high) }

module _ (s : Surface) where
  abbrev lands : Point → Bool
  lands point = lands_within_limits point s

  of_point : (point : Point) → lands point ≡ true → IsOfPlane (point_box point)
  of_point point h = let plane = (lands_true point s h).plane in record { left = plane.x; top = plane.y; right = plane.x; bottom = plane.y }

  over : (first second : Rect) → IsOfPlane first → IsOfPlane second → IsOfPlane (box_over first second)
  over first second a b = record {
    left = lesser first.l second.l a.left b.left;
    top = lesser first.t second.t a.top b.top;
    right = greater first.r second.r a.right b.right;
    bottom = greater first.b second.b a.bottom b.bottom;
  }

  around : (box : Rect) (points : List Point) → IsOfPlane box → list_all lands points ≡ true → IsOfPlane (box_around box points)
  around box [] h all = h
  around box (point ∷ points) h all =
      let parts = and_parts (lands point) (list_all lands points) all in
      around (box_over box (point_box point)) points (over box (point_box point) h (of_point point parts.0)) parts.1

  least : (points : List Point) → list_all lands points ≡ true → IsOfPlane (bounding_box points)
  least [] all = record { left = nothing _ (omega (arith, ints)) (omega (arith, ints)); top = nothing _ (omega (arith, ints)) (omega (arith, ints)); right = nothing _ (omega (arith, ints)) (omega (arith, ints)); bottom = nothing _ (omega (arith, ints)) (omega (arith, ints)) }
  least (point ∷ points) all = let parts = and_parts (lands point) (list_all lands points) all in around (point_box point) points (of_point point parts.0) parts.1

  entry_fits : (number : ℕ) (drawing : Drawing) → number < 2 ^ 32 → list_all lands (drawing_points drawing) ≡ true → is_nib (drawing_nib drawing s) ≡ true
      → IsEntry Mpc2 (least_entry (record { number = number; drawing = drawing }) s)
  entry_fits number drawing few all nib =
      let box = least (drawing_points drawing) all in
      record {
        number = few;
        left = fits _ box.left;
        top = fits _ box.top;
        right = fits _ box.right;
        bottom = fits _ box.bottom;
        nib = nib_true (drawing_nib drawing s) nib;
      }

  later_land : (prefix points : List Point) → list_all lands (prefix ++ points) ≡ true → list_all lands points ≡ true
  later_land [] points all = all
  later_land (point ∷ prefix) points all = later_land prefix points (and_parts (lands point) (list_all lands (prefix ++ points)) all).1

  -- the entry of one operation in front of those of later ones
  drawn_fit : (number : ℕ) (drawing : Option Drawing) (later : List NumberedDrawing) → number < 2 ^ 32 → list_all lands (points_drawn drawing) ≡ true → nib_fault drawing s ≡ None
      → All (IsEntry Mpc2) (least_entries later s) → All (IsEntry Mpc2) (least_entries (drawing_then number drawing later) s)
  drawn_fit number None later few all nib rest = rest
  drawn_fit number (Some drawing) later few all nib rest =
      All-cons (IsEntry Mpc2) (least_entry (record { number = number; drawing = drawing }) s) (least_entries later s)
      (entry_fits number drawing few all (passed (is_nib (drawing_nib drawing s)) NibTooWide nib)) rest

  pub entries_fit : (steps : List StepValue) (after : Option Stop) (state : State) (number : ℕ) → stopped steps after state s ≡ None → AreNumberedFrom number steps → number + length steps < 2 ^ 32
      → All (IsEntry Mpc2) (least_entries (drawings_of steps state) s)
  entries_fit [] after state number h numbers few = All-nil (IsEntry Mpc2)
  entries_fit (step ∷ steps) after state number h numbers few =
      let operation = step.operation in
      let here : fault_of operation state s ≡ None = none_here step.number (fault_of operation state s) _ h in
      let place : place_fault operation state s ≡ None = none_second (plain_fault operation state) (place_fault operation state s) here in
      let landed = passed (all_land_within (plane_points operation state) s) OffPlane (none_first (off_plane_fault (plane_points operation state) s) (nib_fault (drawing_of operation state) s) place) in
      let nib = none_second (off_plane_fault (plane_points operation state) s) (nib_fault (drawing_of operation state) s) place in
      let e = numbers.0 in
      let rest = entries_fit steps after (next operation state) (suc number) (none_later step.number (fault_of operation state s) _ h) numbers.1 (omega (arith, few)) in
      drawn_fit step.number (drawing_of operation state) (drawings_of steps (next operation state)) (omega (arith, e, few))
      (later_land _ (points_drawn (drawing_of operation state)) landed) nib rest
