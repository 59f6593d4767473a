-- Empty lists have no lines, no moves and no points, so they can be skipped.
use Rattle.std.proofs.Common.{◌≡◌, ℕ, ◌+◌, ◌<◌, ◌≤◌, List, [], ◌∷◌, ◌++◌, length, map, refl, sym, ap, ◌∙◌, arith}
use Rattle.std.proofs.lemmas.List.Elements.{All-rest}
use Rattle.mapping.specs.declared.geometry.Point.{Point}
use Rattle.point_views.specs.PassedOver.{after_empty}
use Rattle.dc_stack.specs.Drawing.{points_of_lists}
use Rattle.dc_stack.specs.declared.piece.Verb.{Verb}
use Rattle.dc_stack.specs.declared.projection.Projection.{Projection}
use Rattle.preflight_cert.specs.Outlines.{open_lines_of}
use Rattle.painting.specs.Moves.{moves_of_list, moves_of_lists}
use Rattle.painting.specs.PlacedLines.{AllLand, AllListsLand, lines_of_list, lines_of_lists, projected_list}
use Rattle.painting.specs.declared.list_lines.Ends.{Ends}
use Rattle.painting.specs.declared.list_lines.Ends.TheVariants.{Open, Closed}

-- there are at most as many lists from the first one with points on
length-after_empty : (ls : List (List Point)) → length (after_empty ls) ≤ length ls
length-after_empty [] = omega arith
length-after_empty ([] ∷ ls) = let others = length-after_empty ls in omega arith
length-after_empty ((p ∷ ps) ∷ ls) = omega arith

-- there are fewer lists after it
pub fewer_after : (ps : List Point) (ls after whole : List (List Point)) → after ≡ ps ∷ ls → after ≡ after_empty whole → length ls < length whole
fewer_after ps ls after whole e f =
    let first : length after ≡ length (ps ∷ ls) = ap length e in
    let most = length-after_empty whole in
    let same : length after ≡ length (after_empty whole) = ap length f in omega arith

-- lines between consecutive points, and points
open_lines_after : (ls : List (List Point)) → open_lines_of (after_empty ls) ≡ open_lines_of ls
open_lines_after [] = refl
open_lines_after ([] ∷ ls) = open_lines_after ls
open_lines_after ((p ∷ ps) ∷ ls) = refl

points_after : (ls : List (List Point)) → points_of_lists (after_empty ls) ≡ points_of_lists ls
points_after [] = refl
points_after ([] ∷ ls) = points_after ls
points_after ((p ∷ ps) ∷ ls) = refl

pub counted_after :
    (count all : ℕ) (after whole : List (List Point)) → after ≡ after_empty whole
    → count + length (open_lines_of whole) ≡ all + length (points_of_lists whole)
    → count + length (open_lines_of after) ≡ all + length (points_of_lists after)
counted_after count all after whole e h = rw (e, open_lines_after whole, points_after whole) h

module _ (by : Projection) where
  -- lines on the surface
  lines_after : (ends : Ends) (ls : List (List Point)) → lines_of_lists by ends (after_empty ls) ≡ lines_of_lists by ends ls
  lines_after ends [] = refl
  lines_after Open ([] ∷ ls) = lines_after Open ls
  lines_after Closed ([] ∷ ls) = lines_after Closed ls
  lines_after ends ((p ∷ ps) ∷ ls) = refl

  pub first_lines_after : (ends : Ends) (ps : List Point) (ls after whole : List (List Point)) → after ≡ ps ∷ ls → after ≡ after_empty whole → lines_of_lists by ends whole ≡ lines_of_list by ends ps ++ lines_of_lists by ends ls
  first_lines_after ends ps ls after whole e f = sym (lines_after ends whole) ∙ ap (lines_of_lists by ends) (sym f ∙ e)

  pub no_lines_after : (ends : Ends) (after whole : List (List Point)) → after ≡ [] → after ≡ after_empty whole → lines_of_lists by ends whole ≡ []
  no_lines_after ends after whole e f = sym (lines_after ends whole) ∙ ap (lines_of_lists by ends) (sym f ∙ e)

  -- moves
  moves_after : (verb : Verb) (ls : List (List Point)) → moves_of_lists verb (map (projected_list by) (after_empty ls)) ≡ moves_of_lists verb (map (projected_list by) ls)
  moves_after verb [] = refl
  moves_after verb ([] ∷ ls) = moves_after verb ls
  moves_after verb ((p ∷ ps) ∷ ls) = refl

  pub first_moves_after : (verb : Verb) (ps : List Point) (ls after whole : List (List Point)) → after ≡ ps ∷ ls → after ≡ after_empty whole → moves_of_lists verb (map (projected_list by) whole) ≡ moves_of_list verb (projected_list by ps) ++ moves_of_lists verb (map (projected_list by) ls)
  first_moves_after verb ps ls after whole e f =
      sym (moves_after verb whole) ∙ ap (λ (lists : List (List Point)). moves_of_lists verb (map (projected_list by) lists)) (sym f ∙ e)

  pub no_moves_after : (verb : Verb) (after whole : List (List Point)) → after ≡ [] → after ≡ after_empty whole → moves_of_lists verb (map (projected_list by) whole) ≡ []
  no_moves_after verb after whole e f =
      sym (moves_after verb whole) ∙ ap (λ (lists : List (List Point)). moves_of_lists verb (map (projected_list by) lists)) (sym f ∙ e)

  -- lists whose points land within the limits
  lists_after_land : (ls : List (List Point)) → AllListsLand by ls → AllListsLand by (after_empty ls)
  lists_after_land [] h = h
  lists_after_land ([] ∷ ls) h = lists_after_land ls (All-rest (AllLand by) [] ls ([] ∷ ls) refl h)
  lists_after_land ((p ∷ ps) ∷ ls) h = h

  pub after_lands : (after whole : List (List Point)) → after ≡ after_empty whole → AllListsLand by whole → AllListsLand by after
  after_lands after whole e h = rw e (lists_after_land whole h)
