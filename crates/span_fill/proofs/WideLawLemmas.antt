-- What a pen covers in a row, led along a line, is one span.
use Rattle.std.proofs.Common.{◌≡◌, ℕ, zero, suc, ◌<◌, ◌≤◌, Bool, true, false, ℤ, pos, negsuc, neg_ℤ, ◌+ℤ◌, ◌-ℤ◌, ◌≤ℤ◌, ◌<ℤ◌, refl, sym, subst, ◌∙◌, arith}
use Rattle.std.specs.Prelude.{◌↔◌, IsTrue, int_lt, unsigned_abs}
use Rattle.std.proofs.lemmas.Bool.{true≢false}
use Rattle.std.proofs.lemmas.Bool.Decides.{nat_tests}
use Rattle.std.proofs.lemmas.Int.{ints, by_lt_z}
use Rattle.mapping.specs.Nibs.{IsNib, reach_before, reach_after}
use Rattle.mapping.specs.declared.nib.Nib.{Nib}
use Rattle.span_fill.specs.MajorLines.{major_of, length_of, rise_of}
use Rattle.span_fill.specs.RowSlopes.{x_major_row_slope, row_slope_of, turn_of}
use Rattle.span_fill.specs.Strokes.{far, is_y_major, on_line}
use Rattle.span_fill.specs.WideEdges.{HasColumns, HasRows, IsDrawn, IsGreater, IsHull, IsLesser, IsMeet, IsRun, IsWindow, LiesNear, column_in, high_over, last_in, low_over}
use Rattle.span_fill.specs.WideStrokes.{IsCovered, IsOneSpan, WideStrokeLaws, on_wide_line}
use Rattle.span_fill.specs.declared.major_line.MajorLine.{MajorLine}
use Rattle.span_fill.specs.declared.line.Line.{Line}
use Rattle.span_fill.proofs.CoverLemmas.{by_rows, covered, covers, one_of, stroke_lies}
use Rattle.span_fill.proofs.HullLemmas.{fall_hull, rise_hull}
use Rattle.span_fill.proofs.LineLaw.{on_x_major, on_y_major}
use Rattle.span_fill.proofs.StepLemmas.{along_parts, by_towards, towards_down, towards_up}
use Rattle.span_fill.proofs.SeveralRows.{HasColumn, HasColumnOf, row_exact, rows_union}

-- where the columns of the window begin and end, within those of the line
abbrev pub first_column : Bool → Line → ℤ → ℤ → ℤ
first_column y_major line top last =
    low_over (column_in (row_slope_of y_major (major_of y_major line)) line.from top) (column_in (row_slope_of y_major (major_of y_major line)) line.from last)

abbrev pub last_column : Bool → Line → ℤ → ℤ → ℤ
last_column y_major line top last =
    high_over y_major (column_in (row_slope_of y_major (major_of y_major line)) line.from top) (column_in (row_slope_of y_major (major_of y_major line)) line.from last)

-- a column within both
record IsWithinBoth (y_major : Bool) (line : Line) (from to top last u : ℤ) : Type 0 where
  low : first_column y_major line top last ≤ℤ u
  high : u <ℤ last_column y_major line top last
  from_low : from ≤ℤ u
  to_high : u <ℤ to

-- the row that lies so many behind
distance : (top row : ℤ) → top ≤ℤ row → top +ℤ pos (unsigned_abs (row -ℤ top)) ≡ row
distance top row h = omega (arith, ints, h)

distance_within : (top bottom row : ℤ) → top ≤ℤ row → row ≤ℤ bottom → unsigned_abs (row -ℤ top) ≤ unsigned_abs (bottom -ℤ top)
distance_within top bottom row h k = omega (arith, ints, h, k)

-- what is covered lies near
seen : (nib : Nib) (y_major : Bool) (line : Line) (y from to left right top bottom low high x : ℤ) → IsDrawn y_major line → HasRows y_major line from to → HasColumns y_major line left right
    → IsWindow nib y from to top bottom
    → IsMeet (first_column y_major line top (last_in y_major top (unsigned_abs (bottom -ℤ top)))) left (last_column y_major line top (last_in y_major top (unsigned_abs (bottom -ℤ top)))) right low high
    → IsCovered nib line x y → LiesNear nib low high x
seen nib y_major line y from to left right top bottom low high x drawn rows columns window meet c =
    let in_row = rows.all c.u c.v c.on in
    let in_column = columns.all c.u c.v c.on in
    let above = c.above in
    let under = c.below in
    let to_left = c.left in
    let to_right = c.right in
    let first : top ≤ℤ c.v = window.least c.v in_row.0 (omega (arith, ints, under)) in
    let last : c.v ≤ℤ bottom = window.most c.v in_row.1 (omega (arith, ints, above)) in
    let here = rows.inside c.v in_row.0 in_row.1 in
    let has = ((row_exact y_major line c.v c.u drawn.axis drawn.some drawn.divides here).0 c.on).1 in
    let k = unsigned_abs (c.v -ℤ top) in
    let several : HasColumnOf y_major (row_slope_of y_major (major_of y_major line)) line.from top c.u (unsigned_abs (bottom -ℤ top)) = record {
      after = k;
      within = distance_within top bottom c.v first last;
      has = subst (λ (r : ℤ). HasColumn y_major (row_slope_of y_major (major_of y_major line)) line.from r c.u) (sym (distance top c.v first)) has;
    } in
    let ends = (rows_union y_major (row_slope_of y_major (major_of y_major line)) line.from top c.u (unsigned_abs (bottom -ℤ top)) drawn.divides drawn.near).0 several in
    let least = meet.least c.u ends.0 in_column.0 in
    let most = meet.most c.u ends.1 in_column.1 in
    record { some = omega (arith, ints, least, most); left = omega (arith, ints, least, to_left); right = omega (arith, ints, most, to_right) }

-- a column of the line that is near enough
record IsNearColumn (nib : Nib) (low high x u : ℤ) : Type 0 where
  low_end : low ≤ℤ u
  high_end : u <ℤ high
  left : (u -ℤ pos (reach_before nib.x)) ≤ℤ x
  right : x ≤ℤ (u +ℤ pos (reach_after nib.x))

record HasNearColumn (nib : Nib) (low high x : ℤ) : Type 0 where
  u : ℤ
  is : IsNearColumn nib low high x u

near_column : (nib : Nib) (low high x : ℤ) → LiesNear nib low high x → HasNearColumn nib low high x
near_column nib low high x h =
    let some = h.some in
    let left = h.left in
    let right = h.right in
    by_lt_z low (x -ℤ pos (reach_after nib.x))
    (λ (g : low <ℤ (x -ℤ pos (reach_after nib.x))). record {
      u = x -ℤ pos (reach_after nib.x);
      is = record { low_end = omega (arith, ints, g); high_end = omega (arith, ints, right); left = omega (arith, ints); right = omega (arith, ints) };
    })
    (λ (g : (x -ℤ pos (reach_after nib.x)) ≤ℤ low). record {
      u = low;
      is = record { low_end = omega (arith, ints); high_end = some; left = left; right = omega (arith, ints, g) };
    })

-- and what lies near is covered
reached : (nib : Nib) (y_major : Bool) (line : Line) (y from to left right top bottom low high x : ℤ) → IsDrawn y_major line → HasRows y_major line from to → HasColumns y_major line left right
    → IsWindow nib y from to top bottom
    → IsMeet (first_column y_major line top (last_in y_major top (unsigned_abs (bottom -ℤ top)))) left (last_column y_major line top (last_in y_major top (unsigned_abs (bottom -ℤ top)))) right low high
    → LiesNear nib low high x → IsCovered nib line x y
reached nib y_major line y from to left right top bottom low high x drawn rows columns window meet h =
    let near = near_column nib low high x h in
    let u = near.u in
    let low_end = near.is.low_end in
    let high_end = near.is.high_end in
    let a = meet.low_first in let b = meet.low_second in let c = meet.high_first in let d = meet.high_second in
    let several = (rows_union y_major (row_slope_of y_major (major_of y_major line)) line.from top u (unsigned_abs (bottom -ℤ top)) drawn.divides drawn.near).1 (omega (arith, ints, low_end, a), omega (arith, ints, high_end, c)) in
    let row = top +ℤ pos several.after in
    let within = several.within in
    let order = window.order in
    let top_has = window.top_has in let top_seen = window.top_seen in let bottom_has = window.bottom_has in let bottom_seen = window.bottom_seen in
    let last : row ≤ℤ bottom = omega (arith, ints, within, order) in
    let here = rows.inside row (omega (arith, ints, top_has)) (omega (arith, ints, last, bottom_has)) in
    let on = (row_exact y_major line row u drawn.axis drawn.some drawn.divides here).1 ((λ e. columns.inside e u (omega (arith, ints, low_end, b)) (omega (arith, ints, high_end, d))), several.has) in
    record {
      u = u;
      v = row;
      on = on;
      left = near.is.left;
      right = near.is.right;
      above = omega (arith, ints, last, bottom_seen);
      below = omega (arith, ints, top_seen);
    }

pub wide_exact : (nib : Nib) (y_major : Bool) (line : Line) (y from to left right top bottom low high x : ℤ) → IsNib nib → IsDrawn y_major line → HasRows y_major line from to → HasColumns y_major line left right
    → IsWindow nib y from to top bottom
    → IsMeet (first_column y_major line top (last_in y_major top (unsigned_abs (bottom -ℤ top)))) left (last_column y_major line top (last_in y_major top (unsigned_abs (bottom -ℤ top)))) right low high
    → IsTrue (on_wide_line nib line x y) ↔ LiesNear nib low high x
wide_exact nib y_major line y from to left right top bottom low high x is drawn rows columns window meet = (
  λ t. seen nib y_major line y from to left right top bottom low high x drawn rows columns window meet (covered nib line x y t),
  λ h. covers nib line x y is (reached nib y_major line y from to left right top bottom low high x drawn rows columns window meet h),
)

-- a line none of whose rows the pen reaches
pub none_reached : (nib : Nib) (y_major : Bool) (line : Line) (y from to x : ℤ) → HasRows y_major line from to
    → ((row : ℤ) → from ≤ℤ row → row <ℤ to → (y -ℤ pos (reach_after nib.y)) ≤ℤ row → row ≤ℤ (y +ℤ pos (reach_before nib.y)) → ⊥)
    → IsTrue (on_wide_line nib line x y) → ⊥
none_reached nib y_major line y from to x rows none t =
    let c = covered nib line x y t in
    let in_row = rows.all c.u c.v c.on in
    let above = c.above in
    let under = c.below in
    none c.v in_row.0 in_row.1 (omega (arith, ints, under)) (omega (arith, ints, above))

-- a steep line isn't level
y_major_apart : (line : Line) → is_y_major line ≡ true → line.from.y ≡ line.to.y → ⊥
y_major_apart line e h = grind (arith, ints, nat_tests)

pub y_major_rows : (line : Line) (from to : ℤ) → true ≡ is_y_major line → IsRun (major_of true line) from to → HasRows true line from to
y_major_rows line from to axis run = record {
  inside = λ row h k. record { towards = λ e. (run.exact row).1 (h, k); horizontal = λ e. absurd (y_major_apart line (sym axis) e) };
  all = λ u row t. (run.exact row).0 (along_parts line.from.y line.from.x line.to.y line.to.x row u (sym (on_y_major line u row (sym axis)) ∙ t)).0;
}

pub y_major_columns : (line : Line) (from to : ℤ) → true ≡ is_y_major line → IsHull (major_of true line) from to → HasColumns true line from to
y_major_columns line from to axis hull = record {
  inside = λ e u h k. absurd (true≢false e);
  all = λ u row t. hull.within row u (sym (on_y_major line u row (sym axis)) ∙ t);
}

pub x_major_rows : (line : Line) (from to : ℤ) → false ≡ is_y_major line → IsHull (major_of false line) from to → HasRows false line from to
x_major_rows line from to axis hull = record {
  inside = λ row h k. record { towards = λ e. absurd (true≢false (sym e)); horizontal = λ e. let ends = hull.horizontal e in let a = ends.0 in let b = ends.1 in omega (arith, ints, h, k, a, b) };
  all = λ u row t. hull.within u row (sym (on_x_major line u row (sym axis)) ∙ t);
}

pub x_major_columns : (line : Line) (from to : ℤ) → false ≡ is_y_major line → IsRun (major_of false line) from to → HasColumns false line from to
x_major_columns line from to axis run = record {
  inside = λ e u h k. (run.exact u).1 (h, k);
  all = λ u row t. (run.exact u).0 (along_parts line.from.x line.from.y line.to.x line.to.y u row (sym (on_x_major line u row (sym axis)) ∙ t)).0;
}

-- the numbers of a line that has pixels
x_major_divides : (forwards : Bool) (long turn : ℤ) → pos 1 ≤ℤ (x_major_row_slope forwards long turn).divisor
x_major_divides true long (pos zero) = omega (arith, ints)
x_major_divides false long (pos zero) = omega (arith, ints)
x_major_divides forwards long (pos (suc n)) = omega (arith, ints)
x_major_divides forwards long (negsuc n) = omega (arith, ints)

pub y_major_some : (line : Line) → true ≡ is_y_major line → far line.from.x line.to.x < far line.from.y line.to.y
y_major_some line axis = grind (arith, nat_tests)

turn_small : (major : MajorLine) → unsigned_abs (rise_of major) < length_of major → (neg_ℤ (pos (length_of major)) ≤ℤ turn_of major) × (turn_of major ≤ℤ pos (length_of major))
turn_small major h =
    by_lt_z major.from_u major.to_u
    (λ up. let test : int_lt major.from_u major.to_u ≡ true = grind (arith, ints, up) in rw test (omega (arith, ints, h), omega (arith, ints, h)))
    (λ down. let test : int_lt major.from_u major.to_u ≡ false = grind (arith, ints, down) in rw test (omega (arith, ints, h), omega (arith, ints, h)))

pub drawn_y_major : (line : Line) → true ≡ is_y_major line → IsDrawn true line
drawn_y_major line axis =
    let more = y_major_some line axis in
    let turn = turn_small (major_of true line) more in
    let low = turn.0 in
    let high = turn.1 in
    record {
      axis = axis;
      some = omega (arith, more);
      divides = omega (arith, ints, more);
      near = λ e. (omega (arith, ints, low), omega (arith, ints, high));
    }

pub drawn_x_major : (line : Line) → false ≡ is_y_major line → 1 ≤ length_of (major_of false line) → IsDrawn false line
drawn_x_major line axis some = record {
  axis = axis;
  some = some;
  divides = x_major_divides (int_lt line.from.x line.to.x) (pos (length_of (major_of false line))) (turn_of (major_of false line));
  near = λ e. absurd (true≢false (sym e));
}

-- a run and a hull of each line
record HasRun (major : MajorLine) : Type 0 where
  from : ℤ
  to : ℤ
  is : IsRun major from to

record HasHull (major : MajorLine) : Type 0 where
  from : ℤ
  to : ℤ
  is : IsHull major from to

run_of : (major : MajorLine) → HasRun major
run_of major =
    by_lt_z major.from_u major.to_u
    (λ up. record {
      from = major.from_u;
      to = major.to_u;
      is = record { exact = λ u. ((λ t. by_towards major.from_u major.to_u u t (λ h k. (h, k)) (λ h k. absurd (omega (arith, ints, up, h, k)))), λ h. towards_up major.from_u major.to_u u h.0 h.1) };
    })
    (λ down. record {
      from = major.to_u +ℤ pos 1;
      to = major.from_u +ℤ pos 1;
      is = record {
        exact = λ u. (
          (λ t. by_towards major.from_u major.to_u u t (λ h k. absurd (omega (arith, ints, down, h, k))) (λ h k. (omega (arith, ints, h), omega (arith, ints, k)))),
          λ h. let a = h.0 in let b = h.1 in towards_down major.from_u major.to_u u (omega (arith, ints, a)) (omega (arith, ints, b)),
        );
      };
    })

hull_of : (major : MajorLine) → HasHull major
hull_of major =
    by_lt_z major.to_v major.from_v
    (λ g. record {
      from = major.to_v;
      to = major.from_v +ℤ pos 1;
      is = record {
        within = λ u v t. let h = fall_hull major.from_u major.from_v major.to_u major.to_v u v t (omega (arith, ints, g)) in let b = h.1 in (h.0, omega (arith, ints, b));
        horizontal = λ e. absurd (omega (arith, ints, e, g));
      };
    })
    (λ g. record {
      from = major.from_v;
      to = major.to_v +ℤ pos 1;
      is = record {
        within = λ u v t. let h = rise_hull major.from_u major.from_v major.to_u major.to_v u v t g in let b = h.1 in (h.0, omega (arith, ints, b));
        horizontal = λ e. (refl, omega (arith, ints, e));
      };
    })

record HasGreater (a b : ℤ) : Type 0 where
  m : ℤ
  is : IsGreater a b m

record HasLesser (a b : ℤ) : Type 0 where
  m : ℤ
  is : IsLesser a b m

greater_of : (a b : ℤ) → HasGreater a b
greater_of a b =
    by_lt_z a b
    (λ g. record { m = b; is = record { first = omega (arith, ints, g); second = omega (arith, ints); least = λ u h k. k } })
    (λ g. record { m = a; is = record { first = omega (arith, ints); second = g; least = λ u h k. h } })

lesser_of : (a b : ℤ) → HasLesser a b
lesser_of a b =
    by_lt_z a b
    (λ g. record { m = a; is = record { first = omega (arith, ints); second = omega (arith, ints, g); most = λ u h k. h } })
    (λ g. record { m = b; is = record { first = g; second = omega (arith, ints); most = λ u h k. k } })

pub window_from : (nib : Nib) (y from to top bottom : ℤ) → IsGreater (y -ℤ pos (reach_after nib.y)) from top → IsLesser (y +ℤ pos (reach_before nib.y)) (to -ℤ pos 1) bottom → top ≤ℤ bottom → IsWindow nib y from to top bottom
window_from nib y from to top bottom up down order =
    let under = down.second in record {
      order = order;
      top_seen = up.first;
      top_has = up.second;
      bottom_seen = down.first;
      bottom_has = omega (arith, ints, under);
      least = λ row h k. up.least row k h;
      most = λ row h k. down.most row k (omega (arith, ints, h));
    }

pub meet_from : (low_a low_b high_a high_b low high : ℤ) → IsGreater low_a low_b low → IsLesser high_a high_b high → IsMeet low_a low_b high_a high_b low high
meet_from low_a low_b high_a high_b low high up down = record {
  low_first = up.first;
  low_second = up.second;
  high_first = down.first;
  high_second = down.second;
  least = λ u h k. up.least u h k;
  most = λ u h k. let m = down.most (u +ℤ pos 1) (omega (arith, ints, h)) (omega (arith, ints, k)) in omega (arith, ints, m);
}

-- what a pen covers in a row
no_span : (test : ℤ → Bool) → ((x : ℤ) → IsTrue (test x) → ⊥) → IsOneSpan test
no_span test none = record { from = pos 0; to = pos 0; exact = λ x. ((λ t. absurd (none x t)), λ h. absurd (let a = h.0 in let b = h.1 in omega (arith, ints, a, b))) }

one_span : (nib : Nib) (y_major : Bool) (line : Line) (y from to left right : ℤ) → IsNib nib → IsDrawn y_major line → HasRows y_major line from to → HasColumns y_major line left right → IsOneSpan (λ x. on_wide_line nib line x y)
one_span nib y_major line y from to left right is drawn rows columns =
    let top = greater_of (y -ℤ pos (reach_after nib.y)) from in
    let bottom = lesser_of (y +ℤ pos (reach_before nib.y)) (to -ℤ pos 1) in
    by_lt_z bottom.m top.m
    (λ (g : bottom.m <ℤ top.m).
    no_span (λ x. on_wide_line nib line x y)
    (λ x. none_reached nib y_major line y from to x rows
    (λ row h k m n.
    let a = top.is.least row m h in let b = bottom.is.most row n (omega (arith, ints, k)) in omega (arith, ints, a, b, g))))
    (λ (order : top.m ≤ℤ bottom.m).
    let last = last_in y_major top.m (unsigned_abs (bottom.m -ℤ top.m)) in
    let low = greater_of (first_column y_major line top.m last) left in
    let high = lesser_of (last_column y_major line top.m last) right in
    let window = window_from nib y from to top.m bottom.m top.is bottom.is order in
    let meet = meet_from (first_column y_major line top.m last) left (last_column y_major line top.m last) right low.m high.m low.is high.is in
    let exact : (x : ℤ) → IsTrue (on_wide_line nib line x y) ↔ LiesNear nib low.m high.m x = λ x. wide_exact nib y_major line y from to left right top.m bottom.m low.m high.m x is drawn rows columns window meet in
    by_lt_z low.m high.m
    (λ (some : low.m <ℤ high.m). record {
      from = low.m -ℤ pos (reach_before nib.x);
      to = high.m +ℤ pos (reach_after nib.x);
      exact = λ x. ((λ t. let h = (exact x).0 t in (h.left, h.right)), λ h. (exact x).1 (record { some = some; left = h.0; right = h.1 }));
    })
    (λ (none : high.m ≤ℤ low.m). no_span (λ x. on_wide_line nib line x y) (λ x t. let h = (exact x).0 t in let a = h.some in omega (arith, ints, a, none))))

-- a line without a pixel
pub no_pixel : (line : Line) (u v : ℤ) → false ≡ is_y_major line → length_of (major_of false line) ≡ 0 → on_line line u v ≡ true → ⊥
no_pixel line u v axis none t =
    let towards = (along_parts line.from.x line.from.y line.to.x line.to.y u v (sym (on_x_major line u v (sym axis)) ∙ t)).0 in
    by_towards line.from.x line.to.x u towards (λ h k. omega (arith, ints, none, h, k)) (λ h k. omega (arith, ints, none, h, k))

flat_span : (nib : Nib) (line : Line) (y : ℤ) (length : ℕ) → length_of (major_of false line) ≡ length → IsNib nib → false ≡ is_y_major line → IsOneSpan (λ x. on_wide_line nib line x y)
flat_span nib line y zero e is axis = no_span (λ x. on_wide_line nib line x y) (λ x t. let c = covered nib line x y t in no_pixel line c.u c.v axis e c.on)
flat_span nib line y (suc length) e is axis =
    let rows = hull_of (major_of false line) in
    let columns = run_of (major_of false line) in
    one_span nib false line y rows.from rows.to columns.from columns.to is (drawn_x_major line axis (omega (arith, e))) (x_major_rows line rows.from rows.to axis rows.is) (x_major_columns line columns.from columns.to axis columns.is)

row_span : (nib : Nib) (y_major : Bool) (line : Line) (y : ℤ) → y_major ≡ is_y_major line → IsNib nib → IsOneSpan (λ x. on_wide_line nib line x y)
row_span nib true line y axis is =
    let rows = run_of (major_of true line) in
    let columns = hull_of (major_of true line) in
    one_span nib true line y rows.from rows.to columns.from columns.to is (drawn_y_major line axis) (y_major_rows line rows.from rows.to axis rows.is) (y_major_columns line columns.from columns.to axis columns.is)
row_span nib false line y axis is = flat_span nib line y (length_of (major_of false line)) refl is axis

pub wide_stroke_laws : WideStrokeLaws
wide_stroke_laws = record {
  covers = λ nib line x y is. (covered nib line x y, covers nib line x y is);
  row = λ nib line y is. row_span nib (is_y_major line) line y refl is;
  rows = by_rows;
  one = one_of;
  box = stroke_lies;
}
