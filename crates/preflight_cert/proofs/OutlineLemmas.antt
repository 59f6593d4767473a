-- What holds of all points holds of the ends of the lines through them, and lines round closed figures run down as often as up.
use Rattle.std.proofs.Common.{◌≡◌, ℕ, ◌+◌, ℤ, pos, ◌≤ℤ◌, ◌<ℤ◌, Bool, true, false, ◌&&◌, cond, int_le, int_lt, not, List, [], ◌∷◌, ◌++◌, refl, ap, sym, ◌∙◌, arith}
use Rattle.std.specs.List.{All}
use Rattle.std.proofs.lemmas.Int.{ints, by_lt_z}
use Rattle.std.proofs.lemmas.List.Elements.{All-append, All-cons, All-head, All-map, All-nil, All-tail, All-weaker}
use Rattle.mapping.specs.Surface.{Surface, placed_point}
use Rattle.mapping.specs.TestLaws.{int_le-from, int_le-not, int_lt-from, int_lt-not}
use Rattle.mapping.specs.declared.geometry.Point.{Point}
use Rattle.dc_stack.specs.Boxes.{placed_list}
use Rattle.dc_stack.specs.Figures.{Figure, points_of_figures}
use Rattle.span_fill.specs.Fill.{has_row}
use Rattle.span_fill.specs.declared.line.Line.{Line}
use Rattle.span_fill.specs.LineBoxes.{IsBalanced, met_downwards, met_upwards}
use Rattle.preflight_cert.specs.DrawingBoxLaws.{IsClosedFigure}
use Rattle.preflight_cert.specs.FigureLines.{all_closed, figure_lines, lines_along, placed_figure, placed_figures}
use Rattle.preflight_cert.specs.Outlines.{closed_lines, line_from, lines_after, lines_round, open_lines}

-- what holds of a list holds of its parts
pub all_prefix : {X : Type 0} (P : X → Type 0) (xs ys : List X) → All P (xs ++ ys) → All P xs
all_prefix P [] ys all = All-nil P
all_prefix P (x ∷ xs) ys all = All-cons P x xs (All-head P x (xs ++ ys) all) (all_prefix P xs ys (All-tail P x (xs ++ ys) all))

pub all_back : {X : Type 0} (P : X → Type 0) (xs ys : List X) → All P (xs ++ ys) → All P ys
all_back P [] ys all = all
all_back P (x ∷ xs) ys all = all_back P xs ys (All-tail P x (xs ++ ys) all)

-- both ends of a line are so
pub record BothEnds (Q : Point → Type 0) (line : Line) : Type 0 where
  pub from : Q line.from
  pub to : Q line.to

-- what holds of all points holds of the ends of the lines through them, open or closed
module _ (Q : Point → Type 0) where
  line_ends : (p q : Point) → Q p → Q q → BothEnds Q (line_from p q)
  line_ends p q a b = record { from = a; to = b }

  ends_after : (p : Point) (qs : List Point) → Q p → All Q qs → All (BothEnds Q) (lines_after p qs)
  ends_after p [] a all = All-nil (BothEnds Q)
  ends_after p (q ∷ qs) a all =
      let b = All-head Q q qs all in
      All-cons (BothEnds Q) (line_from p q) (lines_after q qs) (line_ends p q a b) (ends_after q qs b (All-tail Q q qs all))

  ends_round : (first p : Point) (qs : List Point) → Q first → Q p → All Q qs → All (BothEnds Q) (lines_round first p qs)
  ends_round first p [] f a all = All-cons (BothEnds Q) (line_from p first) [] (line_ends p first a f) (All-nil (BothEnds Q))
  ends_round first p (q ∷ qs) f a all =
      let b = All-head Q q qs all in
      All-cons (BothEnds Q) (line_from p q) (lines_round first q qs) (line_ends p q a b) (ends_round first q qs f b (All-tail Q q qs all))

  pub ends_open : (ps : List Point) → All Q ps → All (BothEnds Q) (open_lines ps)
  ends_open [] all = All-nil (BothEnds Q)
  ends_open (p ∷ ps) all = ends_after p ps (All-head Q p ps all) (All-tail Q p ps all)

  pub ends_closed : (ps : List Point) → All Q ps → All (BothEnds Q) (closed_lines ps)
  ends_closed [] all = All-nil (BothEnds Q)
  ends_closed (p ∷ ps) all = let a = All-head Q p ps all in ends_round p p ps a a (All-tail Q p ps all)

-- the same of the figures of points of the plane, where these land
module _ (s : Surface) (P Q : Point → Type 0) (lands : (p : Point) → P p → Q (placed_point p s)) where
  placed_all : (ps : List Point) → All P ps → All Q (placed_list s ps)
  placed_all ps all = All-map Q (λ p. placed_point p s) ps (All-weaker P (λ p. Q (placed_point p s)) lands ps all)

  figure_ends : (is_closed : Bool) (ps : List Point) → All Q ps → All (BothEnds Q) (figure_lines (record { points = ps; is_closed = is_closed }))
  figure_ends true ps all = ends_closed Q ps all
  figure_ends false ps all = ends_open Q ps all

  pub ends_along : (fs : List Figure) → All P (points_of_figures fs) → All (BothEnds Q) (lines_along (placed_figures s fs))
  ends_along [] all = All-nil (BothEnds Q)
  ends_along (f ∷ fs) all =
      All-append (BothEnds Q) (figure_lines (placed_figure s f)) (lines_along (placed_figures s fs))
      (figure_ends f.is_closed (placed_list s f.points) (placed_all f.points (all_prefix P f.points (points_of_figures fs) all)))
      (ends_along fs (all_back P f.points (points_of_figures fs) all))

-- a point is not below the middle of a row, or it is
abbrev over : Point → ℕ → ℕ
over p y = cond (int_le p.y (pos y)) 1 0

-- a row runs past an end, or doesn't
other_side : (a y : ℤ) → int_lt y a ≡ not (int_le a y)
other_side a y =
    by_lt_z y a
    (λ (g : y <ℤ a). int_lt-from y a g ∙ sym (ap not (int_le-not a y (λ k. omega (arith, ints, g, k)))))
    (λ (g : a ≤ℤ y). int_lt-not y a g ∙ sym (ap not (int_le-from a y g)))

four : (a b : Bool) → cond (a && not b) 1 0 + cond b 1 0 ≡ cond (b && not a) 1 0 + cond a 1 0
four true true = refl
four true false = refl
four false true = refl
four false false = refl

balance : (a b y : ℤ) → cond (int_le a y && int_lt y b) 1 0 + cond (int_le b y) 1 0 ≡ cond (int_le b y && int_lt y a) 1 0 + cond (int_le a y) 1 0
balance a b y = rw (other_side a y, other_side b y) (four (int_le a y) (int_le b y))

-- a line that runs past a row goes from over it to below it, or back
line_balance : (p q : Point) (y : ℕ) → cond (has_row p q y) 1 0 + over q y ≡ cond (has_row q p y) 1 0 + over p y
line_balance p q y = balance p.y q.y (pos y)

-- so lines round a list of points run down as often as up
lines_balance : (first p : Point) (qs : List Point) (y : ℕ) →
    met_downwards (lines_round first p qs) y + over first y ≡ met_upwards (lines_round first p qs) y + over p y
lines_balance first p [] y = let e = line_balance p first y in omega arith
lines_balance first p (q ∷ qs) y = let e = line_balance p q y in let rest = lines_balance first q qs y in omega arith

closed_balance : (ps : List Point) (y : ℕ) → met_downwards (closed_lines ps) y ≡ met_upwards (closed_lines ps) y
closed_balance [] y = refl
closed_balance (p ∷ ps) y = let e = lines_balance p p ps y in omega arith

-- counts of lines one after another
down_joined : (xs ys : List Line) (y : ℕ) → met_downwards (xs ++ ys) y ≡ met_downwards xs y + met_downwards ys y
down_joined [] ys y = omega arith
down_joined (x ∷ xs) ys y = let e = down_joined xs ys y in omega arith

up_joined : (xs ys : List Line) (y : ℕ) → met_upwards (xs ++ ys) y ≡ met_upwards xs y + met_upwards ys y
up_joined [] ys y = omega arith
up_joined (x ∷ xs) ys y = let e = up_joined xs ys y in omega arith

-- the lines round closed figures are balanced, wherever their points land
figure_balanced : (is_closed : Bool) (ps : List Point) (y : ℕ) → is_closed ≡ true →
    met_downwards (figure_lines (record { points = ps; is_closed = is_closed })) y ≡ met_upwards (figure_lines (record { points = ps; is_closed = is_closed })) y
figure_balanced true ps y closed = closed_balance ps y
figure_balanced false ps y closed = absurd (cc)

pub figures_balanced : (s : Surface) (fs : List Figure) → All IsClosedFigure fs → IsBalanced (lines_along (placed_figures s fs))
figures_balanced s [] all y = refl
figures_balanced s (f ∷ fs) all y =
    let first = figure_balanced f.is_closed (placed_list s f.points) y (All-head IsClosedFigure f fs all) in
    let rest = figures_balanced s fs (All-tail IsClosedFigure f fs all) y in
    let a = down_joined (figure_lines (placed_figure s f)) (lines_along (placed_figures s fs)) y in
    let b = up_joined (figure_lines (placed_figure s f)) (lines_along (placed_figures s fs)) y in omega arith

-- figures that are made closed are so, and have the points that they had
pub closed_all : (fs : List Figure) → All IsClosedFigure (all_closed fs)
closed_all [] = All-nil IsClosedFigure
closed_all (f ∷ fs) = All-cons IsClosedFigure (record { points = f.points; is_closed = true }) (all_closed fs) refl (closed_all fs)

pub closed_points : (fs : List Figure) → points_of_figures (all_closed fs) ≡ points_of_figures fs
closed_points [] = refl
closed_points (f ∷ fs) = ap (λ (ps : List Point). f.points ++ ps) (closed_points fs)
