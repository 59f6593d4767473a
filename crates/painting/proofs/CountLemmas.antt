-- The number of lines through lists of points.
use Rattle.std.proofs.Common.{◌≡◌, ℕ, zero, suc, ◌+◌, ◌-◌, ◌/◌, ◌<◌, ◌≤◌, ◌^◌, List, [], ◌∷◌, length, drop, Option, Some, refl, ap, sym, ◌∙◌, arith, length-append}
use Rattle.std.proofs.lemmas.List.{length-map}
use Rattle.std.specs.Prelude.{min}
use Rattle.mapping.specs.declared.geometry.Point.{Point}
use Rattle.point_views.specs.Numbers.{point_size}
use Rattle.point_views.specs.Points.{points_in}
use Rattle.point_views.specs.declared.numbers.NumberWidth.{NumberWidth}
use Rattle.point_views.specs.declared.numbers.NumberWidth.TheVariants.{Short, Long}
use Rattle.dc_stack.specs.Drawing.{points_of_lists}
use Rattle.dc_stack.specs.Projected.{projected}
use Rattle.dc_stack.specs.declared.projection.Projection.{Projection}
use Rattle.painting.specs.LinesToCome.{lines_if_on}
use Rattle.preflight_cert.specs.Outlines.{closed_lines, lines_after, lines_round, open_lines, open_lines_of}
use Rattle.painting.specs.PlacedLines.{lines_of_lists, projected_list}
use Rattle.painting.specs.declared.list_lines.Cursor.{Cursor}
use Rattle.painting.specs.declared.list_lines.Ends.{Ends}
use Rattle.painting.specs.declared.list_lines.Ends.TheVariants.{Open, Closed}

-- a view has as many points as it counts, each of at least four bytes
length-points_in : (width : NumberWidth) (n : ℕ) (bytes : List ℕ) → length (points_in width n bytes) ≡ n
length-points_in width zero bytes = refl
length-points_in width (suc n) bytes = ap (λ (k : ℕ). suc k) (length-points_in width n (drop (point_size width) bytes))

sized_few : (width : NumberWidth) (n : ℕ) → n < 2 ^ 64 → n / point_size width < 2 ^ 62
sized_few Short n h = omega arith
sized_few Long n h = omega arith

pub few_points : (width : NumberWidth) (bytes : List ℕ) → length bytes < 2 ^ 64 → length (points_in width (length bytes / point_size width) bytes) < 2 ^ 62
few_points width bytes h = rw (length-points_in width (length bytes / point_size width) bytes) (sized_few width (length bytes) h)

-- after a point there are as many lines as further points, and one more if the list is closed
pub length-lines_after : (p : Point) (qs : List Point) → length (lines_after p qs) ≡ length qs
length-lines_after p [] = refl
length-lines_after p (q ∷ qs) = ap (λ (k : ℕ). suc k) (length-lines_after q qs)

pub length-lines_round : (first p : Point) (qs : List Point) → length (lines_round first p qs) ≡ suc (length qs)
length-lines_round first p [] = refl
length-lines_round first p (q ∷ qs) = ap (λ (k : ℕ). suc k) (length-lines_round first q qs)

-- a closed list has as many lines as points; an open one has one less, or none
pub length-closed_lines : (ps : List Point) → length (closed_lines ps) ≡ length ps
length-closed_lines [] = refl
length-closed_lines (p ∷ ps) = length-lines_round p p ps

pub length-open_lines : (ps : List Point) → length (open_lines ps) + min (length ps) 1 ≡ length ps
length-open_lines [] = refl
length-open_lines (p ∷ ps) = let e = length-lines_after p ps in omega arith

pub open_lines_few : (ps : List Point) → length (open_lines ps) ≤ length ps
open_lines_few ps = let e = length-open_lines ps in omega arith

pub open_lines_of_few : (ls : List (List Point)) → length (open_lines_of ls) ≤ length (points_of_lists ls)
open_lines_of_few [] = omega arith
open_lines_of_few (ps ∷ ls) =
    let first = open_lines_few ps in
    let others = open_lines_of_few ls in
    let a = length-append (open_lines ps) (open_lines_of ls) in
    let b = length-append ps (points_of_lists ls) in omega arith

-- One more list: if it has a point, it has one line less than points.
pub one_list_counted :
    (count all : ℕ) (ps : List Point) (ls whole : List (List Point)) → whole ≡ ps ∷ ls
    → count + length (open_lines_of whole) ≡ all + length (points_of_lists whole)
    → count - min (length ps) 1 + length (open_lines_of ls) ≡ all + length (points_of_lists ls)
one_list_counted count all ps ls whole e h =
    let k : count + length (open_lines_of (ps ∷ ls)) ≡ all + length (points_of_lists (ps ∷ ls)) = rw e at h in
    let first = length-open_lines ps in
    let others = open_lines_of_few ls in
    let a = length-append (open_lines ps) (open_lines_of ls) in
    let b = length-append ps (points_of_lists ls) in omega arith

pub one_is_left :
    (count all : ℕ) (ps : List Point) (ls whole : List (List Point)) → whole ≡ ps ∷ ls
    → count + length (open_lines_of whole) ≡ all + length (points_of_lists whole) → min (length ps) 1 ≤ count
one_is_left count all ps ls whole e h =
    let k : count + length (open_lines_of (ps ∷ ls)) ≡ all + length (points_of_lists (ps ∷ ls)) = rw e at h in
    let first = length-open_lines ps in
    let others = open_lines_of_few ls in
    let a = length-append (open_lines ps) (open_lines_of ls) in
    let b = length-append ps (points_of_lists ls) in omega arith

pub none_left : (count all : ℕ) (whole : List (List Point)) → whole ≡ [] → count + length (open_lines_of whole) ≡ all + length (points_of_lists whole) → count ≡ all
none_left count all whole e h =
    let k : count + length (open_lines_of []) ≡ all + length (points_of_lists []) = rw e at h in omega arith

-- the remaining lines of a list
pub length-open_cursor : (ends : Ends) (on : Option Cursor) (cursor : Cursor) (ps : List Point) → on ≡ Some cursor → ends ≡ Open → length (lines_if_on ends on ps) ≡ length ps
length-open_cursor ends on cursor ps e f = rw (e, f) (length-lines_after cursor.last ps)

pub length-closed_cursor : (ends : Ends) (on : Option Cursor) (cursor : Cursor) (ps : List Point) → on ≡ Some cursor → ends ≡ Closed → length (lines_if_on ends on ps) ≡ suc (length ps)
length-closed_cursor ends on cursor ps e f = rw (e, f) (length-lines_round cursor.first cursor.last ps)

module _ (by : Projection) where
  pub length-projected_list : (ps : List Point) → length (projected_list by ps) ≡ length ps
  length-projected_list ps = length-map ps (projected by)

  -- placing points doesn't change the number of lines
  open_projected : (ps : List Point) → length (open_lines (projected_list by ps)) ≡ length (open_lines ps)
  open_projected [] = refl
  open_projected (p ∷ ps) =
      length-lines_after (projected by p) (projected_list by ps) ∙ length-projected_list ps ∙ sym (length-lines_after p ps)

  pub length-open_lists : (ls : List (List Point)) → length (lines_of_lists by Open ls) ≡ length (open_lines_of ls)
  length-open_lists [] = refl
  length-open_lists (ps ∷ ls) =
      let first = open_projected ps in
      let others = length-open_lists ls in
      let a = length-append (open_lines (projected_list by ps)) (lines_of_lists by Open ls) in
      let b = length-append (open_lines ps) (open_lines_of ls) in omega arith

  pub length-closed_lists : (ls : List (List Point)) → length (lines_of_lists by Closed ls) ≡ length (points_of_lists ls)
  length-closed_lists [] = refl
  length-closed_lists (ps ∷ ls) =
      let first = length-closed_lines (projected_list by ps) in
      let points = length-projected_list ps in
      let others = length-closed_lists ls in
      let a = length-append (closed_lines (projected_list by ps)) (lines_of_lists by Closed ls) in
      let b = length-append ps (points_of_lists ls) in omega arith

  -- there are at most as many lines as points
  pub lines_few : (ends : Ends) (ls : List (List Point)) → length (lines_of_lists by ends ls) ≤ length (points_of_lists ls)
  lines_few Open ls = let e = length-open_lists ls in let few = open_lines_of_few ls in omega arith
  lines_few Closed ls = let e = length-closed_lists ls in omega arith
