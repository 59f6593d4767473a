-- Lists of points on the plane: how many points they have, and where lines through them end.
use Rattle.std.proofs.Common.{◌≡◌, ◌↔◌, ℕ, zero, suc, ◌<◌, ◌≤◌, Bool, true, false, nat_le, List, [], ◌∷◌, ◌++◌, length, Some, IsTrue, arith, refl, ap, sym, ◌∙◌}
use Rattle.std.proofs.lemmas.Bool.{false≢true, le-leb}
use Rattle.std.proofs.lemmas.List.{append-nil, length-map}
use Rattle.std.proofs.lemmas.List.Folds.{flat_map-map}
use Rattle.std.proofs.lemmas.Option.{same_Some}
use Rattle.std.specs.List.{slice_get}
use Rattle.mapping.specs.Plane.{MapNumbers}
use Rattle.mapping.specs.Surface.{Surface}
use Rattle.mapping.specs.declared.geometry.Point.{Point}
use Rattle.dc_stack.specs.Drawing.{edge_limit, going_on, points_of_lists}
use Rattle.dc_stack.specs.Figures.{Figure, figures_of_lists, points_of_figures}
use Rattle.dc_stack.specs.Mapped.{mapped_list, mapped_lists, mapped_point}
use Rattle.dc_stack.specs.Next.{end_of}
use Rattle.dc_stack.specs.OperationFault.{points_fault}

-- lists are mapped as their points are
mapped_append : (m : MapNumbers) (ps qs : List Point) → mapped_list m (ps ++ qs) ≡ mapped_list m ps ++ mapped_list m qs
mapped_append m [] qs = refl
mapped_append m (p ∷ ps) qs = ap (λ rest. mapped_point m p ∷ rest) (mapped_append m ps qs)

pub mapped_joined : (m : MapNumbers) (lists : List (List Point)) → points_of_lists (mapped_lists m lists) ≡ mapped_list m (points_of_lists lists)
mapped_joined m [] = refl
mapped_joined m (list ∷ lists) = rw (mapped_joined m lists) (sym (mapped_append m list (points_of_lists lists)))

-- the points of all lists, on the plane
pub points_mapped : (m : MapNumbers) (points : List Point) (lists : List (List Point)) → points ≡ points_of_lists lists → mapped_list m points ≡ points_of_lists (mapped_lists m lists)
points_mapped m points lists h = ap (mapped_list m) h ∙ sym (mapped_joined m lists)

-- lines that go on through points have these, and the one where they begin
pub through : (m : MapNumbers) (start : Point) (points : List Point) → 0 < length points → mapped_lists m (going_on start points) ≡ mapped_list m (start ∷ points) ∷ []
through m start [] h = absurd (omega arith)
through m start (p ∷ ps) h = refl

-- the points of figures through lists are those of the lists
pub points_listed : (lists : List (List Point)) → points_of_figures (figures_of_lists lists) ≡ points_of_lists lists
points_listed lists = flat_map-map (λ (figure : Figure). figure.points) (λ (points : List Point). record { points = points; is_closed = false }) lists

pub joined_one : (points : List Point) → points_of_lists (points ∷ []) ≡ points
joined_one points = append-nil points

pub through_joined : (m : MapNumbers) (start : Point) (points : List Point) → 0 < length points → points_of_lists (mapped_lists m (going_on start points)) ≡ mapped_list m (start ∷ points)
through_joined m start points h = ap points_of_lists (through m start points h) ∙ joined_one (mapped_list m (start ∷ points))

-- so they have the same fault, and are so many
pub through_fault : (m : MapNumbers) (start : Point) (points : List Point) (s : Surface) → 0 < length points → points_fault (points_of_lists (mapped_lists m (going_on start points))) s ≡ points_fault (mapped_list m (start ∷ points)) s
through_fault m start points s h = ap (λ ps. points_fault ps s) (through_joined m start points h)

pub through_count : (m : MapNumbers) (start : Point) (points : List Point) → 0 < length points → suc (length points) ≡ length (points_of_lists (mapped_lists m (going_on start points)))
through_count m start points h = sym (ap length (through_joined m start points h) ∙ length-map (start ∷ points) (mapped_point m))

-- as few points as this are never too many
pub never_too_many : (count : ℕ) → count ≤ 1048576 → count ≤ edge_limit
unfolding edge_limit
never_too_many count h = h

-- so a test of it passes
pub few_then : (count : ℕ) → count ≤ 1048576 → nat_le count edge_limit ≡ true
few_then count h = le-leb count edge_limit (never_too_many count h)

-- there is a point where a test says that there are some
pub has_points : (points : List Point) (test : Bool) → IsTrue test ↔ (points ≡ []) → test ≡ false → 0 < length points
has_points [] test reports h = absurd (false≢true (sym h ∙ reports.1 refl))
has_points (p ∷ ps) test reports h = omega arith

-- the last point
pub end_at : (start : Point) (points : List Point) (i : ℕ) (p : Point) → suc i ≡ length points → slice_get points i ≡ Some p → p ≡ end_of start points
end_at start [] i p last at = cc
end_at start (q ∷ []) zero p last at = sym (same_Some q p at)
end_at start (q ∷ []) (suc i) p last at = cc
end_at start (q ∷ r ∷ rs) zero p last at = absurd (omega arith)
end_at start (q ∷ r ∷ rs) (suc i) p last at = end_at q (r ∷ rs) i p (omega arith) at
