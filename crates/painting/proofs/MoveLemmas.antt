-- The moves through the points of pieces draw the lines of the figures that the pieces define.
use Rattle.std.proofs.Common.{◌≡◌, Bool, true, false, List, [], ◌∷◌, ◌++◌, map, refl, ap, sym, ◌∙◌, append_assoc}
use Rattle.std.proofs.lemmas.Grind.{flat_map-append}
use Rattle.std.proofs.lemmas.List.{append-nil, map-append}
use Rattle.std.specs.List.{flat_map}
use Rattle.mapping.specs.PageMap.{map_numbers}
use Rattle.mapping.specs.Surface.{Surface, placed_point}
use Rattle.mapping.specs.declared.geometry.Point.{Point}
use Rattle.dc_stack.specs.Boxes.{placed_list}
use Rattle.dc_stack.specs.Figures.{Figure, Figures, all_figures, figure_of, no_figures, with_current_done, with_polygon, with_polyline}
use Rattle.dc_stack.specs.Pieces.{figures_of, gone_on, plane_lists, with_end, with_lists, with_piece, with_pieces}
use Rattle.dc_stack.specs.declared.piece.FigureEnd.{FigureEnd}
use Rattle.dc_stack.specs.declared.piece.FigureEnd.TheVariants.{Open as LeftOpen, Ended, Closed as Joined}
use Rattle.dc_stack.specs.declared.piece.Verb.{Verb}
use Rattle.dc_stack.specs.declared.piece.Verb.TheVariants.{GoesOn, Polylines, Polygons}
use Rattle.dc_stack.specs.declared.piece.Piece.{Piece}
use Rattle.span_fill.specs.declared.line.Line.{Line}
use Rattle.painting.specs.FigureEnds.{lines_of_figure, lines_of_figures}
use Rattle.preflight_cert.specs.FigureLines.{placed_figure, placed_figures}
use Rattle.painting.specs.Moves.{Drawn, drawn, lines_at_end, lines_of_moves, moves_of_list, moves_of_lists, moves_of_piece, moves_of_pieces, nothing}
use Rattle.preflight_cert.specs.Outlines.{line_from, lines_after, lines_round, open_lines}
use Rattle.preflight_cert.specs.Shape.{placed_lists}
use Rattle.painting.specs.declared.list_lines.Ends.{Ends}
use Rattle.painting.specs.declared.list_lines.Ends.TheVariants.{Open, Closed}
use Rattle.painting.specs.declared.moves.Move.{Move}
use Rattle.painting.specs.declared.moves.Move.TheVariants.{To, End}

abbrev figures_with : List Figure → List Point → Figures
figures_with done current = record { done = done; current = current }

-- the figures that moves define
abbrev with_move : Move → Figures → Figures
with_move (To point) f = gone_on (point ∷ []) f
with_move (End end) f = with_end end f

abbrev with_moves : List Move → Figures → Figures
with_moves [] f = f
with_moves (move ∷ moves) f = with_moves moves (with_move move f)

one_after_another : (a b : List Move) (f : Figures) → with_moves (a ++ b) f ≡ with_moves b (with_moves a f)
one_after_another [] b f = refl
one_after_another (m ∷ a) b f = one_after_another a b (with_move m f)

-- continuing through points
through : (ps : List Point) (f : Figures) → with_moves (map To ps) f ≡ gone_on ps f
through [] f = ap (figures_with f.done) (sym (append-nil f.current))
through (p ∷ ps) f = through ps (gone_on (p ∷ []) f) ∙ ap (figures_with f.done) (append_assoc f.current (p ∷ []) ps)

then_end : (ps : List Point) (end : FigureEnd) (f : Figures) → with_moves (map To ps ++ End end ∷ []) f ≡ with_end end (gone_on ps f)
then_end ps end f = one_after_another (map To ps) (End end ∷ []) f ∙ ap (with_end end) (through ps f)

-- the moves of a list do what the list does
goes_on : (ps : List Point) (f : Figures) → with_moves (moves_of_list GoesOn ps) f ≡ gone_on ps f
goes_on [] f = ap (figures_with f.done) (sym (append-nil f.current))
goes_on (p ∷ ps) f = then_end (p ∷ ps) LeftOpen f

polyline : (ps : List Point) (f : Figures) → with_moves (moves_of_list Polylines ps) f ≡ with_polyline ps f
polyline [] f = refl
polyline (p ∷ ps) f = then_end (p ∷ ps) LeftOpen (with_current_done false f)

polygon : (ps : List Point) (f : Figures) → with_moves (moves_of_list Polygons ps) f ≡ with_polygon ps f
polygon [] f = refl
polygon (p ∷ ps) f = then_end (p ∷ ps) Joined (with_current_done false f)

-- the moves of several lists do what the lists do
with_lists_moves : (verb : Verb) (ls : List (List Point)) (f : Figures) → with_moves (moves_of_lists verb ls) f ≡ with_lists verb ls f
with_lists_moves GoesOn [] f = ap (figures_with f.done) (sym (append-nil f.current))
with_lists_moves GoesOn (l ∷ ls) f =
    one_after_another (moves_of_list GoesOn l) (moves_of_lists GoesOn ls) f
    ∙ ap (with_moves (moves_of_lists GoesOn ls)) (goes_on l f)
    ∙ with_lists_moves GoesOn ls (gone_on l f)
    ∙ ap (figures_with f.done) (append_assoc f.current l (flat_map (λ list. list) ls))
with_lists_moves Polylines [] f = refl
with_lists_moves Polylines (l ∷ ls) f =
    one_after_another (moves_of_list Polylines l) (moves_of_lists Polylines ls) f
    ∙ ap (with_moves (moves_of_lists Polylines ls)) (polyline l f)
    ∙ with_lists_moves Polylines ls (with_polyline l f)
with_lists_moves Polygons [] f = refl
with_lists_moves Polygons (l ∷ ls) f =
    one_after_another (moves_of_list Polygons l) (moves_of_lists Polygons ls) f
    ∙ ap (with_moves (moves_of_lists Polygons ls)) (polygon l f)
    ∙ with_lists_moves Polygons ls (with_polygon l f)

module _ (s : Surface) where
  -- moves and figures, on the surface
  abbrev placed_move : Move → Move
  placed_move (To point) = To (placed_point point s)
  placed_move (End end) = End end

  abbrev placed_moves : List Move → List Move
  placed_moves moves = map placed_move moves

  abbrev placed : Figures → Figures
  placed f = figures_with (placed_figures s f.done) (placed_list s f.current)

  placed_to : (ps : List Point) → placed_moves (map To ps) ≡ map To (placed_list s ps)
  placed_to [] = refl
  placed_to (p ∷ ps) = ap (λ (rest : List Move). To (placed_point p s) ∷ rest) (placed_to ps)

  placed_list_moves : (verb : Verb) (ps : List Point) → placed_moves (moves_of_list verb ps) ≡ moves_of_list verb (placed_list s ps)
  placed_list_moves verb [] = refl
  placed_list_moves GoesOn (p ∷ ps) = ap (λ (rest : List Move). End LeftOpen ∷ rest) (map-append placed_move (map To (p ∷ ps)) (End LeftOpen ∷ []) ∙ ap (λ (rest : List Move). rest ++ End LeftOpen ∷ []) (placed_to (p ∷ ps)))
  placed_list_moves Polylines (p ∷ ps) = ap (λ (rest : List Move). End Ended ∷ rest) (map-append placed_move (map To (p ∷ ps)) (End LeftOpen ∷ []) ∙ ap (λ (rest : List Move). rest ++ End LeftOpen ∷ []) (placed_to (p ∷ ps)))
  placed_list_moves Polygons (p ∷ ps) = ap (λ (rest : List Move). End Ended ∷ rest) (map-append placed_move (map To (p ∷ ps)) (End Joined ∷ []) ∙ ap (λ (rest : List Move). rest ++ End Joined ∷ []) (placed_to (p ∷ ps)))

  placed_lists_moves : (verb : Verb) (ls : List (List Point)) → placed_moves (moves_of_lists verb ls) ≡ moves_of_lists verb (placed_lists s ls)
  placed_lists_moves verb [] = refl
  placed_lists_moves verb (l ∷ ls) =
      map-append placed_move (moves_of_list verb l) (moves_of_lists verb ls)
      ∙ ap (λ (rest : List Move). rest ++ placed_moves (moves_of_lists verb ls)) (placed_list_moves verb l)
      ∙ ap (λ (rest : List Move). moves_of_list verb (placed_list s l) ++ rest) (placed_lists_moves verb ls)

  placed_figure_of : (is_closed : Bool) (ps : List Point) → placed_figures s (figure_of is_closed ps) ≡ figure_of is_closed (placed_list s ps)
  placed_figure_of is_closed [] = refl
  placed_figure_of is_closed (p ∷ ps) = refl

  placed_with : (is_closed : Bool) (f : Figures) → placed_figures s (f.done ++ figure_of is_closed f.current) ≡ placed_figures s f.done ++ figure_of is_closed (placed_list s f.current)
  placed_with is_closed f =
      map-append (placed_figure s) f.done (figure_of is_closed f.current)
      ∙ ap (λ (rest : List Figure). placed_figures s f.done ++ rest) (placed_figure_of is_closed f.current)

  -- placing the points before or after making the moves
  move_placed : (move : Move) (f : Figures) → with_move (placed_move move) (placed f) ≡ placed (with_move move f)
  move_placed (To p) f = ap (figures_with (placed_figures s f.done)) (sym (map-append (λ q. placed_point q s) f.current (p ∷ [])))
  move_placed (End LeftOpen) f = refl
  move_placed (End Ended) f = ap (λ (done : List Figure). figures_with done []) (sym (placed_with false f))
  move_placed (End Joined) f = ap (λ (done : List Figure). figures_with done []) (sym (placed_with true f))

  moves_placed : (moves : List Move) (f : Figures) → with_moves (placed_moves moves) (placed f) ≡ placed (with_moves moves f)
  moves_placed [] f = refl
  moves_placed (m ∷ ms) f = ap (with_moves (placed_moves ms)) (move_placed m f) ∙ moves_placed ms (with_move m f)

  -- the moves of a piece do what the piece does
  piece_placed : (piece : Piece) (f : Figures) → with_moves (moves_of_piece s piece) (placed f) ≡ placed (with_piece piece f)
  piece_placed piece f =
      let lists = plane_lists (map_numbers piece.map) piece.points in
      let moves = moves_of_lists piece.verb lists in
      one_after_another (moves_of_lists piece.verb (placed_lists s lists)) (End piece.end ∷ []) (placed f)
      ∙ ap (λ (there : List Move). with_end piece.end (with_moves there (placed f))) (sym (placed_lists_moves piece.verb lists))
      ∙ ap (with_end piece.end) (moves_placed moves f)
      ∙ move_placed (End piece.end) (with_moves moves f)
      ∙ ap (λ (g : Figures). placed (with_end piece.end g)) (with_lists_moves piece.verb lists f)

  pieces_placed : (pieces : List Piece) (f : Figures) → with_moves (moves_of_pieces s pieces) (placed f) ≡ placed (with_pieces pieces f)
  pieces_placed [] f = refl
  pieces_placed (p ∷ ps) f =
      one_after_another (moves_of_piece s p) (moves_of_pieces s ps) (placed f)
      ∙ ap (with_moves (moves_of_pieces s ps)) (piece_placed p f)
      ∙ pieces_placed ps (with_piece p f)

-- the last of some points, with a given first one
abbrev last_of : Point → List Point → Point
last_of p [] = p
last_of p (q ∷ qs) = last_of q qs

last_after : (p : Point) (ps : List Point) (q : Point) → last_of p (ps ++ q ∷ []) ≡ q
last_after p [] q = refl
last_after p (r ∷ rs) q = last_after r rs q

-- the open figure of the points
abbrev drawn_through : List Point → Drawn
drawn_through [] = nothing
drawn_through (p ∷ ps) = drawn p (last_of p ps)

-- one more line
after_more : (p : Point) (ps : List Point) (q : Point) → lines_after p (ps ++ q ∷ []) ≡ lines_after p ps ++ line_from (last_of p ps) q ∷ []
after_more p [] q = refl
after_more p (r ∷ rs) q = ap (λ (rest : List Line). line_from p r ∷ rest) (after_more r rs q)

round_is : (first p : Point) (ps : List Point) → lines_round first p ps ≡ lines_after p ps ++ line_from (last_of p ps) first ∷ []
round_is first p [] = refl
round_is first p (r ∷ rs) = ap (λ (rest : List Line). line_from p r ∷ rest) (round_is first r rs)

-- the lines of a figure are those so far and the line at its end
ended : (ends : Ends) (ps : List Point) → lines_of_figures ends (figure_of false ps) ≡ open_lines ps ++ lines_at_end ends Ended (drawn_through ps)
ended ends [] = refl
ended Open (p ∷ ps) = refl
ended Closed (p ∷ ps) = append-nil (lines_round p p ps) ∙ round_is p p ps

joined : (ends : Ends) (ps : List Point) → lines_of_figures ends (figure_of true ps) ≡ open_lines ps ++ lines_at_end ends Joined (drawn_through ps)
joined ends [] = refl
joined Open (p ∷ ps) = append-nil (lines_round p p ps) ∙ round_is p p ps
joined Closed (p ∷ ps) = append-nil (lines_round p p ps) ∙ round_is p p ps

none_drawn : (ends : Ends) (figure : Drawn) → lines_at_end ends LeftOpen figure ≡ []
none_drawn ends nothing = refl
none_drawn Open (drawn first last) = refl
none_drawn Closed (drawn first last) = refl

module _ (ends : Ends) where
  -- one more figure, with the lines of its end
  figure_more : (done : List Figure) (is_closed : Bool) (current : List Point) (last others : List Line) → lines_of_figures ends (figure_of is_closed current) ≡ open_lines current ++ last → lines_of_figures ends (done ++ figure_of is_closed current) ++ others ≡ lines_of_figures ends done ++ (open_lines current ++ (last ++ others))
  figure_more done is_closed current last others e =
      ap (λ (first : List Line). first ++ others) (flat_map-append (lines_of_figure ends) done (figure_of is_closed current))
      ∙ append_assoc (lines_of_figures ends done) (lines_of_figures ends (figure_of is_closed current)) others
      ∙ ap (λ (figure : List Line). lines_of_figures ends done ++ (figure ++ others)) e
      ∙ ap (λ (rest : List Line). lines_of_figures ends done ++ rest) (append_assoc (open_lines current) last others)

  -- one more point
  point_more : (current : List Point) (p : Point) (moves : List Move) → open_lines (current ++ p ∷ []) ++ lines_of_moves ends (drawn_through (current ++ p ∷ [])) moves ≡ open_lines current ++ lines_of_moves ends (drawn_through current) (To p ∷ moves)
  point_more [] p moves = refl
  point_more (q ∷ qs) p moves =
      ap (λ (lines : List Line). lines ++ lines_of_moves ends (drawn q (last_of q (qs ++ p ∷ []))) moves) (after_more q qs p)
      ∙ ap (λ (last : Point). (lines_after q qs ++ line_from (last_of q qs) p ∷ []) ++ lines_of_moves ends (drawn q last) moves) (last_after q qs p)
      ∙ append_assoc (lines_after q qs) (line_from (last_of q qs) p ∷ []) (lines_of_moves ends (drawn q p) moves)

  -- moves draw the lines of the figures that they add
  lines_drawn : (moves : List Move) (f : Figures) → lines_of_figures ends (all_figures (with_moves moves f)) ≡ lines_of_figures ends f.done ++ (open_lines f.current ++ lines_of_moves ends (drawn_through f.current) moves)
  lines_drawn [] f =
      flat_map-append (lines_of_figure ends) f.done (figure_of false f.current)
      ∙ ap (λ (rest : List Line). lines_of_figures ends f.done ++ rest) (ended ends f.current)
  lines_drawn (To p ∷ ms) f =
      lines_drawn ms (gone_on (p ∷ []) f)
      ∙ ap (λ (rest : List Line). lines_of_figures ends f.done ++ rest) (point_more f.current p ms)
  lines_drawn (End LeftOpen ∷ ms) f =
      lines_drawn ms f
      ∙ ap (λ (none : List Line). lines_of_figures ends f.done ++ (open_lines f.current ++ (none ++ lines_of_moves ends (drawn_through f.current) ms))) (sym (none_drawn ends (drawn_through f.current)))
  lines_drawn (End Ended ∷ ms) f =
      lines_drawn ms (with_current_done false f)
      ∙ figure_more f.done false f.current (lines_at_end ends Ended (drawn_through f.current)) (lines_of_moves ends nothing ms) (ended ends f.current)
  lines_drawn (End Joined ∷ ms) f =
      lines_drawn ms (with_current_done true f)
      ∙ figure_more f.done true f.current (lines_at_end ends Joined (drawn_through f.current)) (lines_of_moves ends nothing ms) (joined ends f.current)

  -- the moves of pieces draw the lines of their figures
  pub pieces_drawn : (s : Surface) (pieces : List Piece) → lines_of_moves ends nothing (moves_of_pieces s pieces) ≡ lines_of_figures ends (placed_figures s (all_figures (figures_of pieces)))
  pieces_drawn s pieces =
      let f = figures_of pieces in
      sym (lines_drawn (moves_of_pieces s pieces) no_figures)
      ∙ ap (λ (g : Figures). lines_of_figures ends (all_figures g)) (pieces_placed s pieces no_figures)
      ∙ ap (lines_of_figures ends) (sym (placed_with s false f))
