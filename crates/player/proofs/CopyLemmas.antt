-- Rows that are copied to a buffer one after another.
use Rattle.std.proofs.Common.{◌≡◌, ℕ, ◌+◌, ◌-◌, ◌*◌, ◌<◌, ◌≤◌, List, ◌++◌, length, get_or, take, drop, sym, ap, ◌∙◌, inl, inr, refl, arith}
use Rattle.std.proofs.lemmas.Bool.{cases_lt}
use Rattle.std.proofs.lemmas.List.{get_or-append_right, get_or-drop, get_or-take, get_or_append_left, length-append, length-drop, length-take-le}
use Rattle.std.proofs.lemmas.Nat.{mul-le, row_fits}
use Rattle.player.specs.Rows.{CopiesRows, HasCapacityForRows, layout_size, row_place}
use Rattle.player.specs.declared.row_layout.RowLayout.{RowLayout}
use borrow.Rule.Slice.PartMut.{put_mid}

-- bytes that were put in place of others: those before, those put, and those after
module _ (place k : ℕ) (made old : List ℕ) (count : k ≡ length made) (within : place + length made ≤ length old) where
  abbrev spliced : List ℕ
  spliced = put_mid place k old made

  long : length (take place old) ≡ place
  long = length-take-le place old (omega (arith, within))

  pub put_before : (i d : ℕ) → i < place → get_or spliced i d ≡ get_or old i d
  put_before i d before = get_or_append_left (take place old) (made ++ drop k (drop place old)) d i (omega (arith, long, before)) ∙ get_or-take place old i d before

  pub put_here : (i d : ℕ) → i < length made → get_or spliced (place + i) d ≡ get_or made i d
  put_here i d here =
      let at : place + i - place ≡ i = omega arith in
      get_or-append_right (take place old) (made ++ drop k (drop place old)) place (place + i) d long (omega arith)
      ∙ ap (λ (n : ℕ). get_or (made ++ drop k (drop place old)) n d) at
      ∙ get_or_append_left made (drop k (drop place old)) d i here

  pub put_after : (i d : ℕ) → place + length made ≤ i → get_or spliced i d ≡ get_or old i d
  put_after i d after =
      let back : place + (k + (i - place - length made)) ≡ i = omega (arith, after, count) in
      get_or-append_right (take place old) (made ++ drop k (drop place old)) place i d long (omega (arith, after))
      ∙ get_or-append_right made (drop k (drop place old)) (length made) (i - place) d refl (omega (arith, after))
      ∙ get_or-drop k (drop place old) (i - place - length made) d
      ∙ get_or-drop place old (k + (i - place - length made)) d
      ∙ ap (λ (n : ℕ). get_or old n d) back

  pub put_length : length spliced ≡ length old
  put_length =
      let rest = length-drop k (drop place old) in
      let first = length-drop place old in
      let both = length-append (take place old) (made ++ drop k (drop place old)) in
      let after = length-append made (drop k (drop place old)) in
      omega (arith, rest, first, both, after, long, within, count)

module _ (samples : ℕ → List ℕ) (layout : RowLayout) (size : ℕ) where
  -- no row was copied yet
  pub copies_none : (from : ℕ) (old : List ℕ) → CopiesRows samples layout size from from old old
  copies_none from old = record {
    same_size = refl;
    rows = λ y k any first before within. absurd (omega (arith, first, before));
    others = λ place any outside. refl;
  }

  -- one row was copied
  pub copies_one :
      (y place k : ℕ) (made old : List ℕ) → place ≡ row_place layout y → k ≡ size → made ≡ samples y → length made ≡ size
      → row_place layout y + size ≤ length old → CopiesRows samples layout size y (y + 1) old (put_mid place k old made)
  copies_one y place k made old at count is long within =
      let counted : k ≡ length made = omega (arith, count, long) in
      let fits : place + length made ≤ length old = omega (arith, at, long, within) in
      record {
        same_size = put_length place k made old counted fits;
        rows = λ row i any first before here.
            let same : row ≡ y = omega (arith, first, before) in
            let put : get_or (put_mid place k old made) (place + i) any ≡ get_or made i any = put_here place k made old counted fits i any (omega (arith, here, long)) in
            let there : row_place layout row ≡ place = ap (row_place layout) same ∙ sym at in
            ap (λ (n : ℕ). get_or (put_mid place k old made) (n + i) any) there
            ∙ put
            ∙ ap (λ (bytes : List ℕ). get_or bytes i any) (is ∙ ap samples (sym same));
        others = λ i any outside. elim (outside y (omega arith) (omega arith)) [
          | inl before ↦ put_before place k made old counted fits i any (omega (arith, before, at))
          | inr after ↦ put_after place k made old counted fits i any (omega (arith, after, at, long))
        ];
      }

  -- a row begins behind the bytes of each row above it
  behind : (y later k : ℕ) → layout.first ≤ y → y < later → k < size → size ≤ layout.stride → row_place layout y + k < row_place layout later
  behind y later k first order within apart =
      let fits = row_fits (y - layout.first) layout.stride (later - layout.first) layout.stride (omega (arith, first, order)) (omega arith) in
      omega (arith, fits, within, apart)

  -- more rows were copied after the first ones
  pub copies_more :
      (from next to : ℕ) (old mid new : List ℕ) → layout.first ≤ from → from ≤ next → next ≤ to → size ≤ layout.stride
      → CopiesRows samples layout size from next old mid → CopiesRows samples layout size next to mid new → CopiesRows samples layout size from to old new
  copies_more from next to old mid new first order later apart above below = record {
    same_size = below.same_size ∙ above.same_size;
    rows = λ y k any begins ends within. elim (cases_lt y next) [
      | inl before ↦
          below.others (row_place layout y + k) any (λ other starts stops. inl (behind y other k (omega (arith, first, begins)) (omega (arith, before, starts)) within apart))
          ∙ above.rows y k any begins before within
      | inr after ↦ below.rows y k any (omega (arith, after)) ends within
    ];
    others = λ place any outside.
        below.others place any (λ y starts stops. outside y (omega (arith, order, starts)) stops)
        ∙ above.others place any (λ y starts stops. outside y starts (omega (arith, later, stops)));
  }

  -- the same rows with the same samples
  pub copies_same :
      (others : ℕ → List ℕ) (from to : ℕ) (old new : List ℕ) → ((y : ℕ) → from ≤ y → y < to → samples y ≡ others y)
      → CopiesRows samples layout size from to old new → CopiesRows others layout size from to old new
  copies_same others from to old new same copied = record {
    same_size = copied.same_size;
    rows = λ y k any begins ends within. copied.rows y k any begins ends within ∙ ap (λ (bytes : List ℕ). get_or bytes k any) (same y begins ends);
    others = copied.others;
  }

-- a buffer that has capacity for all rows of a layout has it for each of them
pub capacity_for_rows :
    (layout : RowLayout) (width from to : ℕ) (buffer : List ℕ) → layout.first ≤ from → to ≤ layout.first + layout.count
    → layout_size layout width ≤ length buffer → HasCapacityForRows layout (3 * width) from to buffer
capacity_for_rows layout width from to buffer first last enough y begins ends =
    let less = mul-le (y - layout.first) layout.stride (layout.count - 1) layout.stride (omega (arith, first, last, begins, ends)) (omega arith) in
    omega (arith, less, enough)
