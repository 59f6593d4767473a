-- Rows that lie apart in a list of colours: what they are one after another, and what a change within one row makes of that.
use Rattle.std.proofs.Common.{◌≡◌, ℕ, zero, suc, ◌+◌, ◌-◌, ◌*◌, ◌/◌, ◌%◌, ◌<◌, ◌≤◌, List, [], ◌∷◌, ◌++◌, length, get_or, set, take, drop, replicate, sym, ap, ◌∙◌, subst, inl, inr, arith}
use Rattle.std.proofs.lemmas.Bool.{cases_lt}
use Rattle.std.proofs.lemmas.List.{drop-replicate, get_or-append_right, get_or-drop, get_or-take, get_or_append_left, length-append, length-drop, length-take-le, replicate-append-replicate, same_lists, take-replicate}
use Rattle.std.proofs.lemmas.Nat.{div-add-mod', div_below, mod_below, row_fits}
use Rattle.mapping.specs.declared.geometry.Colour.{Colour}
use Rattle.canvas.specs.Rows.{row_colours}
use Rattle.canvas.proofs.PartLemmas.{length-with_part, part_before, part_after, part_here, set_is_part, with_part}

-- each pixel held has a colour
pub length-row_colours : (rows width stride : ℕ) (colours : List Colour) → width ≤ stride → rows * stride ≤ length colours → length (row_colours rows width stride colours) ≡ rows * width
length-row_colours zero width stride colours narrow whole = omega arith
length-row_colours (suc rows) width stride colours narrow whole =
    let rest : length (row_colours rows width stride (drop stride colours)) ≡ rows * width = length-row_colours rows width stride (drop stride colours) narrow (omega (arith, length-drop stride colours)) in
    let row : length (take width colours) ≡ width = length-take-le width colours (omega arith) in
    length-append (take width colours) _ ∙ omega (arith, rest, row)

-- the colour of a column of a row is the one at its place
pub get_or-row_colours : (rows width stride : ℕ) (colours : List Colour) (row column : ℕ) (d : Colour) → width ≤ stride → rows * stride ≤ length colours → row < rows → column < width → get_or (row_colours rows width stride colours) (row * width + column) d ≡ get_or colours (row * stride + column) d
get_or-row_colours zero width stride colours row column d narrow whole below within = absurd (omega arith)
get_or-row_colours (suc rows) width stride colours zero column d narrow whole below within =
    let long : length (take width colours) ≡ width = length-take-le width colours (omega arith) in
    let index : 0 * width + column ≡ column = omega arith in
    let place : column ≡ 0 * stride + column = omega arith in
    ap (λ (i : ℕ). get_or (row_colours (suc rows) width stride colours) i d) index
    ∙ get_or_append_left (take width colours) _ d column (omega (arith, long))
    ∙ get_or-take width colours column d within
    ∙ ap (λ (i : ℕ). get_or colours i d) place
get_or-row_colours (suc rows) width stride colours (suc row) column d narrow whole below within =
    let long : length (take width colours) ≡ width = length-take-le width colours (omega arith) in
    let index : suc row * width + column - width ≡ row * width + column = omega arith in
    let place : stride + (row * stride + column) ≡ suc row * stride + column = omega arith in
    get_or-append_right (take width colours) _ width (suc row * width + column) d long (omega arith)
    ∙ ap (λ (i : ℕ). get_or (row_colours rows width stride (drop stride colours)) i d) index
    ∙ get_or-row_colours rows width stride (drop stride colours) row column d narrow (omega (arith, length-drop stride colours)) (omega arith) within
    ∙ get_or-drop stride colours (row * stride + column) d
    ∙ ap (λ (i : ℕ). get_or colours i d) place

-- colours put in place of a part of one row
module _ (rows width stride row column : ℕ) (made colours : List Colour) (wide : 1 ≤ width) (narrow : width ≤ stride) (whole : rows * stride ≤ length colours) (below : row < rows) (within : column + length made ≤ width) where
  -- the colours of the rows, the part's place in the list, and its place among the colours of the rows
  abbrev held : List Colour
  held = row_colours rows width stride colours

  abbrev place : ℕ
  place = row * stride + column

  abbrev index : ℕ
  index = row * width + column

  abbrev written : List Colour
  written = with_part place made colours

  capacity : place + length made ≤ length colours
  capacity = let fits = row_fits row stride rows stride below (omega arith) in omega (arith, fits)

  length-held : length held ≡ rows * width
  length-held = length-row_colours rows width stride colours narrow whole

  capacity_held : index + length made ≤ length held
  capacity_held = let fits = row_fits row width rows width below (omega arith) in omega (arith, fits, length-held)

  whole_written : rows * stride ≤ length written
  whole_written = omega (arith, length-with_part place made colours capacity)

  -- a pixel before the part, in it, and behind it
  before : (r c : ℕ) (d : Colour) → r < rows → c < width → r * stride + c < place → r * width + c < index → get_or written (r * stride + c) d ≡ get_or (with_part index made held) (r * width + c) d
  before r c d a b p q =
      part_before place made colours capacity (r * stride + c) d p
      ∙ sym (get_or-row_colours rows width stride colours r c d narrow whole a b)
      ∙ sym (part_before index made held capacity_held (r * width + c) d q)

  here : (c : ℕ) (d : Colour) → column ≤ c → c < column + length made → get_or written (row * stride + c) d ≡ get_or (with_part index made held) (row * width + c) d
  here c d a b =
      let k : row * stride + c - place ≡ row * width + c - index = omega arith in
      part_here place made colours capacity (row * stride + c) d (omega arith) (omega arith)
      ∙ ap (λ (i : ℕ). get_or made i d) k
      ∙ sym (part_here index made held capacity_held (row * width + c) d (omega arith) (omega arith))

  after : (r c : ℕ) (d : Colour) → r < rows → c < width → place + length made ≤ r * stride + c → index + length made ≤ r * width + c → get_or written (r * stride + c) d ≡ get_or (with_part index made held) (r * width + c) d
  after r c d a b p q =
      part_after place made colours capacity (r * stride + c) d p
      ∙ sym (get_or-row_colours rows width stride colours r c d narrow whole a b)
      ∙ sym (part_after index made held capacity_held (r * width + c) d q)

  -- a pixel of the part's row, and one of any row
  in_row_of_part : (c : ℕ) (d : Colour) → c < width → get_or written (row * stride + c) d ≡ get_or (with_part index made held) (row * width + c) d
  in_row_of_part c d b = elim (cases_lt c column) [
    | inl low ↦ before row c d below b (omega arith) (omega arith)
    | inr high ↦ elim (cases_lt c (column + length made)) [
      | inl inside ↦ here c d high inside
      | inr out ↦ after row c d below b (omega arith) (omega arith)
    ]
  ]

  in_any_row : (r c : ℕ) (d : Colour) → r < rows → c < width → get_or written (r * stride + c) d ≡ get_or (with_part index made held) (r * width + c) d
  in_any_row r c d a b = elim (cases_lt r row) [
    | inl above ↦
        let p = row_fits r stride row stride above (omega arith) in
        let q = row_fits r width row width above (omega arith) in
        before r c d a b (omega (arith, p)) (omega (arith, q))
    | inr not_above ↦ elim (cases_lt row r) [
      | inl under ↦
          let p = row_fits row stride r stride under (omega arith) in
          let q = row_fits row width r width under (omega arith) in
          after r c d a b (omega (arith, p)) (omega (arith, q))
      | inr not_under ↦
          let e : row ≡ r = omega arith in
          subst (λ (n : ℕ). get_or written (n * stride + c) d ≡ get_or (with_part index made held) (n * width + c) d) e (in_row_of_part c d b)
    ]
  ]

  at_index : (k : ℕ) (d : Colour) → k < rows * width → get_or (row_colours rows width stride written) k d ≡ get_or (with_part index made held) k d
  at_index k d h =
      let a : k / width < rows = div_below k width rows (omega arith) h in
      let b : k % width < width = mod_below k width (omega arith) in
      subst (λ (n : ℕ). get_or (row_colours rows width stride written) n d ≡ get_or (with_part index made held) n d) (div-add-mod' k width)
      (get_or-row_colours rows width stride written (k / width) (k % width) d narrow whole_written a b ∙ in_any_row (k / width) (k % width) d a b)

  -- that is the same change of the colours of the rows
  pub row_with_part : row_colours rows width stride (with_part (row * stride + column) made colours) ≡ with_part (row * width + column) made (row_colours rows width stride colours)
  row_with_part =
      let long = length-row_colours rows width stride written narrow whole_written in
      same_lists _ _ (long ∙ sym (length-with_part index made held capacity_held ∙ length-held)) (λ k d h. at_index k d (omega (arith, h, long)))

-- one colour put at the place of a pixel
pub row_set : (rows width stride row column : ℕ) (colour : Colour) (colours : List Colour) → width ≤ stride → rows * stride ≤ length colours → row < rows → column < width → row_colours rows width stride (set colours (row * stride + column) colour) ≡ set (row_colours rows width stride colours) (row * width + column) colour
row_set rows width stride row column colour colours narrow whole below within =
    let held = row_colours rows width stride colours in
    let place = row * stride + column in
    let index = row * width + column in
    let fits = row_fits row stride rows stride below (omega arith) in
    let fits_held = row_fits row width rows width below (omega arith) in
    let long : length held ≡ rows * width = length-row_colours rows width stride colours narrow whole in
    ap (row_colours rows width stride) (set_is_part colours place colour (omega (arith, fits)))
    ∙ row_with_part rows width stride row column (colour ∷ []) colours (omega arith) narrow whole below (omega arith)
    ∙ sym (set_is_part held index colour (omega (arith, fits_held, long)))

-- rows of one colour
pub row_colours_of_one : (rows width stride : ℕ) (colour : Colour) → width ≤ stride → row_colours rows width stride (replicate (rows * stride) colour) ≡ replicate (rows * width) colour
row_colours_of_one zero width stride colour narrow = let none : 0 ≡ 0 * width = omega arith in ap (λ (n : ℕ). replicate n colour) none
row_colours_of_one (suc rows) width stride colour narrow =
    let all : suc rows * stride ≡ stride + rows * stride = omega arith in
    let rest : stride + rows * stride - stride ≡ rows * stride = omega arith in
    let sum : width + rows * width ≡ suc rows * width = omega arith in
    let row : take width (replicate (suc rows * stride) colour) ≡ replicate width colour = take-replicate width (suc rows * stride) colour (omega arith) in
    let others : drop stride (replicate (suc rows * stride) colour) ≡ replicate (rows * stride) colour = ap (λ (n : ℕ). drop stride (replicate n colour)) all ∙ drop-replicate stride (stride + rows * stride) colour ∙ ap (λ (n : ℕ). replicate n colour) rest in
    ap (λ (prefix : List Colour). prefix ++ row_colours rows width stride (drop stride (replicate (suc rows * stride) colour))) row
    ∙ ap (λ (cs : List Colour). replicate width colour ++ row_colours rows width stride cs) others
    ∙ ap (λ (cs : List Colour). replicate width colour ++ cs) (row_colours_of_one rows width stride colour narrow)
    ∙ replicate-append-replicate width (rows * width) colour
    ∙ ap (λ (n : ℕ). replicate n colour) sum

-- a part of a row, among the colours of the rows and in the list
pub row_part : (rows width stride row column count : ℕ) (colours : List Colour) → width ≤ stride → rows * stride ≤ length colours → row < rows → column + count ≤ width → take count (drop (row * width + column) (row_colours rows width stride colours)) ≡ take count (drop (row * stride + column) colours)
row_part rows width stride row column count colours narrow whole below within =
    let held = row_colours rows width stride colours in
    let fits = row_fits row stride rows stride below (omega arith) in
    let fits_held = row_fits row width rows width below (omega arith) in
    let long : length held ≡ rows * width = length-row_colours rows width stride colours narrow whole in
    let count_held : length (take count (drop (row * width + column) held)) ≡ count = length-take-le count (drop (row * width + column) held) (omega (arith, length-drop (row * width + column) held, fits_held, long)) in
    let count_here : length (take count (drop (row * stride + column) colours)) ≡ count = length-take-le count (drop (row * stride + column) colours) (omega (arith, length-drop (row * stride + column) colours, fits)) in
    same_lists _ _ (count_held ∙ sym count_here) (λ k d h.
    let below_count : k < count = omega (arith, h, count_held) in
    let index : row * width + column + k ≡ row * width + (column + k) = omega arith in
    let place : row * stride + (column + k) ≡ row * stride + column + k = omega arith in
    get_or-take count (drop (row * width + column) held) k d below_count
    ∙ get_or-drop (row * width + column) held k d
    ∙ ap (λ (i : ℕ). get_or held i d) index
    ∙ get_or-row_colours rows width stride colours row (column + k) d narrow whole below (omega arith)
    ∙ ap (λ (i : ℕ). get_or colours i d) place
    ∙ sym (get_or-take count (drop (row * stride + column) colours) k d below_count ∙ get_or-drop (row * stride + column) colours k d))
