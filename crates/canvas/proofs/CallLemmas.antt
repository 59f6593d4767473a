-- What the calls that write have done to the colours is what they say.
use Rattle.std.proofs.Common.{◌≡◌, ℕ, ◌+◌, ◌-◌, ◌*◌, ◌<◌, ◌≤◌, Bool, true, cond, eqb, List, [], ◌∷◌, ◌++◌, length, get_or, set, take, drop, Some, refl, sym, ap, ◌∙◌, subst, arith}
use Rattle.std.proofs.lemmas.Bool.{and_from, and_parts, cond-true, eq-eqb, eqb-true}
use Rattle.std.proofs.lemmas.List.{drop-drop, get_or-drop, get_or-take}
use Rattle.std.proofs.lemmas.Nat.{row_fits}
use Rattle.std.proofs.lemmas.Option.{slice_get_read}
use Rattle.std.specs.List.{slice_get}
use Rattle.mapping.specs.declared.geometry.Colour.{Colour}
use Rattle.mapping.specs.Pixels.{count_indexes, is_cell}
use Rattle.canvas.specs.CanvasState.{CanvasState, HasPixel, colour_index}
use Rattle.canvas.specs.Rows.{row_colours}
use Rattle.canvas.specs.Writing.{Repaints, in_cells, in_row_span, is_at}
use Rattle.canvas.proofs.IndexLemmas.{count_all, count_same}
use Rattle.canvas.proofs.FieldLemmas.{LiesIn, length_part, length_shown}
use Rattle.canvas.proofs.PartLemmas.{length-with_part, set_is_part, with_part}
use Rattle.canvas.proofs.RowLemmas.{get_or-row_colours, row_set, row_with_part}
use Rattle.canvas.proofs.SpanLemmas.{IsPart, fits, span_from, wrote_part}
use borrow.Rule.Slice.PartMut.{post_of}

-- a part of a row that the canvas holds
abbrev pub PartOf : CanvasState → ℕ → ℕ → ℕ → Type 0
PartOf canvas y from to = IsPart canvas.width canvas.first canvas.rows y from to

-- where the part begins in the list of colours
abbrev pub place_in : CanvasState → ℕ → ℕ → ℕ
place_in canvas x y = (y - canvas.first) * canvas.width + x

-- a colour of the part, in the list of colours
pub part_at : (place k : ℕ) (borrowed : List Colour) (j : ℕ) (d : Colour) → j < k → get_or (take k (drop place borrowed)) j d ≡ get_or borrowed (place + j) d
part_at place k borrowed j d h = get_or-take k (drop place borrowed) j d h ∙ get_or-drop place borrowed j d

-- where a column of row y stands in a list of such rows
abbrev pub place_at : CanvasState → ℕ → ℕ → ℕ → ℕ
place_at canvas stride x y = (y - canvas.first) * stride + x

-- a part lies within the list, and its colours are the canvas's
module _ (y from to stride : ℕ) (was old : CanvasState) (borrowed : List Colour) (same : was ≡ old) (part : PartOf old y from to) (lies : LiesIn was stride borrowed) where
  part_was : PartOf was y from to
  part_was = subst (λ (s : CanvasState). PartOf s y from to) (sym same) part

  row_below : y - was.first < was.rows
  row_below = let low = part_was.from_first in let high = part_was.to_last in omega arith

  pub part_fits : place_at was stride from y + (to - from) ≤ length borrowed
  part_fits =
      let order = part_was.order in let within = part_was.within in
      let narrow = lies.narrow in let whole = lies.whole in
      let fits = row_fits (y - was.first) stride was.rows stride row_below (omega arith) in
      omega (arith, fits)

  colour_at : (j : ℕ) (d : Colour) → j < to - from → get_or was.colours (place_in was from y + j) d ≡ get_or borrowed (place_at was stride from y + j) d
  colour_at j d h =
      let within = part_was.within in
      let index : place_in was from y + j ≡ (y - was.first) * was.width + (from + j) = omega arith in
      let place : (y - was.first) * stride + (from + j) ≡ place_at was stride from y + j = omega arith in
      ap (λ (cs : List Colour). get_or cs (place_in was from y + j) d) lies.shown
      ∙ ap (λ (i : ℕ). get_or (row_colours was.rows was.width stride borrowed) i d) index
      ∙ get_or-row_colours was.rows was.width stride borrowed (y - was.first) (from + j) d lies.narrow lies.whole row_below (omega arith)
      ∙ ap (λ (i : ℕ). get_or borrowed i d) place

pub column_part : (canvas : CanvasState) (x y : ℕ) → HasPixel canvas x y → PartOf canvas y x (x + 1)
column_part canvas x y h = record { order = omega arith; within = omega (arith, h.column); from_first = h.from_first; to_last = h.to_last }

pub place_within : (x y stride : ℕ) (was old : CanvasState) (borrowed : List Colour) → was ≡ old → HasPixel old x y → LiesIn was stride borrowed → place_at was stride x y < length borrowed
place_within x y stride was old borrowed same held lies =
    let within = part_fits y x (x + 1) stride was old borrowed same (column_part old x y held) lies in
    omega (arith, within)

-- `was` is the canvas before the call, `borrowed` the list of its rows, and `made` what stands in the part now
module _ (y from to place k stride : ℕ) (f : ℕ → ℕ → Colour → Colour) (was old new : CanvasState) (borrowed made : List Colour) (same : was ≡ old) (part : PartOf old y from to) where
  module _ (lies : LiesIn was stride borrowed) (at : place ≡ place_at was stride from y) (count : k ≡ to - from) (long : length made ≡ to - from) where
    written_is : take place borrowed ++ (made ++ post_of place k borrowed) ≡ with_part (place_at was stride from y) made borrowed
    written_is = rw (drop-drop k place borrowed, at, count, ← long) refl

    length-written : length (take place borrowed ++ (made ++ post_of place k borrowed)) ≡ length borrowed
    length-written =
        let within = part_fits y from to stride was old borrowed same part lies in
        ap length written_is ∙ length-with_part (place_at was stride from y) made borrowed (omega (arith, within, long))

    shown_is : row_colours was.rows was.width stride (take place borrowed ++ (made ++ post_of place k borrowed)) ≡ with_part (place_in was from y) made was.colours
    shown_is =
        let here = part_was y from to stride was old borrowed same part lies in
        let order = here.order in let within = here.within in
        ap (row_colours was.rows was.width stride) written_is
        ∙ row_with_part was.rows was.width stride (y - was.first) from made borrowed lies.wide lies.narrow lies.whole (row_below y from to stride was old borrowed same part lies) (omega (arith, long))
        ∙ ap (with_part (place_in was from y) made) (sym lies.shown)

    pub wrote :
        (t : ℕ → ℕ → Bool)
        → ((x row : ℕ) → t x row ≡ true → in_row_span y from to x row ≡ true)
        → ((j : ℕ) (d : Colour) → j < to - from → get_or made j d ≡ cond (t (from + j) y) (f (from + j) y (get_or borrowed (place + j) d)) (get_or borrowed (place + j) d))
        → (length (take place borrowed ++ (made ++ post_of place k borrowed)) ≡ length borrowed → new.colours ≡ row_colours was.rows was.width stride (take place borrowed ++ (made ++ post_of place k borrowed)))
        → new.writes ≡ was.writes + count_indexes (λ j. t (from + j) y) 0 (to - from)
        → new.width ≡ was.width → new.first ≡ was.first → new.rows ≡ was.rows → new.most ≡ was.most
        → Repaints t f old new
    wrote t inside each colours writes w fi r m =
        subst (λ (s : CanvasState). Repaints t f s new) same
        (wrote_part y from to t f was new made (part_was y from to stride was old borrowed same part lies) inside (length_shown was stride borrowed lies) long
        (λ j d h. rw (colour_at y from to stride was old borrowed same part lies j d h, ← at) (each j d h))
        (colours length-written ∙ shown_is)
        writes w fi r m)

    -- every pixel of the span is written
    spanned : (j : ℕ) → j < to - from → in_row_span y from to (from + j) y ≡ true
    spanned j h = span_from y from to (from + j) y refl (omega arith) (omega arith)

    pub wrote_span :
        ((j : ℕ) (d : Colour) → j < to - from → get_or made j d ≡ f (from + j) y (get_or borrowed (place + j) d))
        → (length (take place borrowed ++ (made ++ post_of place k borrowed)) ≡ length borrowed → new.colours ≡ row_colours was.rows was.width stride (take place borrowed ++ (made ++ post_of place k borrowed)))
        → new.writes ≡ was.writes + (to - from)
        → new.width ≡ was.width → new.first ≡ was.first → new.rows ≡ was.rows → new.most ≡ was.most
        → Repaints (in_row_span y from to) f old new
    wrote_span each colours writes w fi r m =
        wrote (in_row_span y from to) (λ x row h. h)
        (λ j d h. each j d h ∙ sym (cond-true _ (f (from + j) y (get_or borrowed (place + j) d)) (get_or borrowed (place + j) d) (spanned j h)))
        colours
        (writes ∙ ap (λ (n : ℕ). was.writes + n) (sym (count_all (λ j. in_row_span y from to (from + j) y) 0 (to - from) (λ j a b. spanned j (omega arith)))))
        w fi r m

-- a helper was lent the part, and each of its colours is what f makes of it
pub helped_span :
    (y from to place k stride : ℕ) (f : ℕ → ℕ → Colour → Colour) (was old new : CanvasState) (borrowed made : List Colour) → was ≡ old
    → PartOf old y from to → LiesIn was stride borrowed → place ≡ place_at was stride from y
    → k ≡ to - from
    → length made ≡ length (take k (drop place borrowed))
    → ((j : ℕ) (d : Colour) → j < length (take k (drop place borrowed)) → get_or made j d ≡ f (from + j) y (get_or (take k (drop place borrowed)) j d))
    → (length (take place borrowed ++ (made ++ post_of place k borrowed)) ≡ length borrowed → new.colours ≡ row_colours was.rows was.width stride (take place borrowed ++ (made ++ post_of place k borrowed)))
    → new.writes ≡ was.writes + (to - from)
    → new.width ≡ was.width → new.first ≡ was.first → new.rows ≡ was.rows → new.most ≡ was.most
    → Repaints (in_row_span y from to) f old new
helped_span y from to place k stride f was old new borrowed made same part lies at count kept each =
    let within = part_fits y from to stride was old borrowed same part lies in
    let capacity : place + k ≤ length borrowed = omega (arith, at, count, within) in
    let long = length_part place k borrowed capacity in
    wrote_span y from to place k stride f was old new borrowed made same part lies at count (kept ∙ long ∙ count)
    (λ j d h. each j d (omega (arith, long, count)) ∙ ap (f (from + j) y) (part_at place k borrowed j d (omega arith)))

-- the same where the helper changes those of the part's colours whose column is a cell
pub helped_cells :
    (y from to place k stride cells count : ℕ) (g : Colour → Colour) (was old new : CanvasState) (borrowed made : List Colour) → was ≡ old
    → PartOf old y from to → LiesIn was stride borrowed → place ≡ place_at was stride from y
    → k ≡ to - from
    → length made ≡ length (take k (drop place borrowed))
    → ((j : ℕ) (d : Colour) → j < length (take k (drop place borrowed)) → get_or made j d ≡ cond (is_cell cells (from + j)) (g (get_or (take k (drop place borrowed)) j d)) (get_or (take k (drop place borrowed)) j d))
    → count ≡ count_indexes (λ j. is_cell cells (from + j)) 0 (length (take k (drop place borrowed)))
    → (length (take place borrowed ++ (made ++ post_of place k borrowed)) ≡ length borrowed → new.colours ≡ row_colours was.rows was.width stride (take place borrowed ++ (made ++ post_of place k borrowed)))
    → new.writes ≡ was.writes + count
    → new.width ≡ was.width → new.first ≡ was.first → new.rows ≡ was.rows → new.most ≡ was.most
    → Repaints (in_cells y from to cells) (λ column row x. g x) old new
helped_cells y from to place k stride cells count g was old new borrowed made same part lies at counted kept each number colours writes w fi r m =
    let within = part_fits y from to stride was old borrowed same part lies in
    let capacity : place + k ≤ length borrowed = omega (arith, at, counted, within) in
    let long = length_part place k borrowed capacity in
    let spanned : (j : ℕ) → j < to - from → in_row_span y from to (from + j) y ≡ true = λ j h. span_from y from to (from + j) y refl (omega arith) (omega arith) in
    wrote y from to place k stride (λ column row x. g x) was old new borrowed made same part lies at counted (kept ∙ long ∙ counted)
    (in_cells y from to cells)
    (λ x row h. (and_parts (in_row_span y from to x row) (is_cell cells x) h).0)
    (λ j d h. rw (spanned j h, ← part_at place k borrowed j d (omega arith)) (each j d (omega (arith, long, counted))))
    colours
    (writes ∙ ap (λ (n : ℕ). was.writes + n) (number ∙ ap (λ (n : ℕ). count_indexes (λ j. is_cell cells (from + j)) 0 n) (long ∙ counted) ∙ count_same (λ j. is_cell cells (from + j)) (λ j. in_cells y from to cells (from + j) y) 0 (to - from) (λ j a b. rw (spanned j (omega arith)) refl)))
    w fi r m

-- one pixel is a part with one column
module _ (x y : ℕ) (f : ℕ → ℕ → Colour → Colour) (was old new : CanvasState) (value : Colour) (same : was ≡ old) (held : HasPixel old x y) where
  held_was : HasPixel was x y
  held_was = subst (λ (s : CanvasState). HasPixel s x y) (sym same) held

  one_column : PartOf was y x (x + 1)
  one_column = column_part was x y held_was

  at_parts : (column row : ℕ) → is_at x y column row ≡ true → in_row_span y x (x + 1) column row ≡ true
  at_parts column row h =
      let parts = and_parts (eqb column x) (eqb row y) h in
      let c = eqb-true column x parts.0 in
      span_from y x (x + 1) column row (eqb-true row y parts.1) (omega (arith, c)) (omega (arith, c))

  at_first : (j : ℕ) → j < x + 1 - x → is_at x y (x + j) y ≡ true
  at_first j h = let e : x + j ≡ x = omega arith in and_from _ _ (eq-eqb (x + j) x e) (eq-eqb y y refl)

  module _ (whole : length was.colours ≡ was.rows * was.width) (made : (d : Colour) → value ≡ f x y (get_or was.colours (place_in was x y) d)) where
    each_first : (j : ℕ) (d : Colour) → j < x + 1 - x → get_or (value ∷ []) j d ≡ cond (is_at x y (x + j) y) (f (x + j) y (get_or was.colours (place_in was x y + j) d)) (get_or was.colours (place_in was x y + j) d)
    each_first j d h =
        let z : 0 ≡ j = omega arith in
        let e : x ≡ x + j = omega arith in
        let p : place_in was x y ≡ place_in was x y + j = omega arith in
        let first : get_or (value ∷ []) j d ≡ value = subst (λ (i : ℕ). get_or (value ∷ []) i d ≡ value) z refl in
        let moved : f x y (get_or was.colours (place_in was x y) d) ≡ f (x + j) y (get_or was.colours (place_in was x y + j) d) = rw (← e, ← p) refl in
        first ∙ made d ∙ moved ∙ sym (cond-true _ _ (get_or was.colours (place_in was x y + j) d) (at_first j h))

    wrote_colour :
        new.colours ≡ set was.colours (place_in was x y) value → new.writes ≡ was.writes + 1
        → new.width ≡ was.width → new.first ≡ was.first → new.rows ≡ was.rows → new.most ≡ was.most
        → Repaints (is_at x y) f old new
    wrote_colour colours writes w fi r m =
        let within = fits was.width was.first was.rows y x (x + 1) one_column in
        let inside : place_in was x y < length was.colours = omega (arith, whole, within) in
        let one : x + 1 - x ≡ 1 = omega arith in
        let counted : count_indexes (λ j. is_at x y (x + j) y) 0 (x + 1 - x) ≡ 1 = count_all (λ j. is_at x y (x + j) y) 0 (x + 1 - x) (λ j a b. at_first j (omega arith)) ∙ one in
        subst (λ (s : CanvasState). Repaints (is_at x y) f s new) same
        (wrote_part y x (x + 1) (is_at x y) f was new (value ∷ []) one_column at_parts whole (sym one) each_first
        (colours ∙ set_is_part was.colours (place_in was x y) value inside)
        (writes ∙ ap (λ (n : ℕ). was.writes + n) (sym counted))
        w fi r m)

-- the same by the pixel's place in the list of rows
module _ (x y place stride : ℕ) (was old : CanvasState) (borrowed : List Colour) (same : was ≡ old) (held : HasPixel old x y) (lies : LiesIn was stride borrowed) (at : place ≡ place_at was stride x y) where
  set_is : (value : Colour) → row_colours was.rows was.width stride (set borrowed place value) ≡ set was.colours (place_in was x y) value
  set_is value =
      let here = subst (λ (s : CanvasState). HasPixel s x y) (sym same) held in
      let low = here.from_first in let high = here.to_last in
      ap (λ (i : ℕ). row_colours was.rows was.width stride (set borrowed i value)) at
      ∙ row_set was.rows was.width stride (y - was.first) x value borrowed lies.narrow lies.whole (omega arith) here.column
      ∙ ap (λ (cs : List Colour). set cs (place_in was x y) value) (sym lies.shown)

  pub shown_set : (value : Colour) → row_colours was.rows was.width stride (set borrowed place value) ≡ set old.colours (colour_index old x y) value
  shown_set value = set_is value ∙ ap (λ (s : CanvasState). set s.colours (colour_index s x y) value) same

  colour_is : (d : Colour) → get_or was.colours (place_in was x y) d ≡ get_or borrowed place d
  colour_is d =
      let here = subst (λ (s : CanvasState). HasPixel s x y) (sym same) held in
      let low = here.from_first in let high = here.to_last in
      ap (λ (cs : List Colour). get_or cs (place_in was x y) d) lies.shown
      ∙ get_or-row_colours was.rows was.width stride borrowed (y - was.first) x d lies.narrow lies.whole (omega arith) here.column
      ∙ ap (λ (i : ℕ). get_or borrowed i d) (sym at)

  pub shown_colour : (value : Colour) → value ≡ get_or borrowed place value → slice_get old.colours (colour_index old x y) ≡ Some value
  shown_colour value read =
      let here = subst (λ (s : CanvasState). HasPixel s x y) (sym same) held in
      let low = here.from_first in let high = here.to_last in let column = here.column in
      let fits = row_fits (y - was.first) was.width was.rows was.width (omega arith) (omega arith) in
      subst (λ (s : CanvasState). slice_get s.colours (colour_index s x y) ≡ Some value) same
      (slice_get_read was.colours _ (place_in was x y) value (sym (length_shown was stride borrowed lies)) (omega (arith, fits)) (read ∙ sym (colour_is value)))

  pub wrote_pixel :
      (f : ℕ → ℕ → Colour → Colour) (new : CanvasState) (value : Colour) → ((d : Colour) → value ≡ f x y (get_or borrowed place d))
      → new.colours ≡ row_colours was.rows was.width stride (set borrowed place value) → new.writes ≡ was.writes + 1
      → new.width ≡ was.width → new.first ≡ was.first → new.rows ≡ was.rows → new.most ≡ was.most
      → Repaints (is_at x y) f old new
  wrote_pixel f new value made colours writes w fi r m =
      wrote_colour x y f was old new value same held (length_shown was stride borrowed lies)
      (λ d. made d ∙ ap (f x y) (sym (colour_is d)))
      (colours ∙ set_is value)
      writes w fi r m
