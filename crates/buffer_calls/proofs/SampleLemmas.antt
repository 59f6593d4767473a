-- What a writer of samples holds after a whole text, after a prefix that fills it, and after nothing.
use Rattle.std.proofs.Common.{◌≡◌, ◌≤◌, ◌∙◌, ℕ, ◌+◌, ◌-◌, ◌*◌, List, [], ◌∷◌, ◌++◌, length, take, drop, ap, arith, refl, subst, sym, length-append, append-nil}
use Rattle.std.proofs.Math.Nat.{mul_assoc, mul_comm}
use Rattle.std.proofs.lemmas.List.{drop_at, length-replicate, length-take, length-take-le, nil_from_length, take_all}
use Rattle.mapping.specs.Colours.{white_colour}
use Rattle.mapping.specs.Image.{Image}
use Rattle.mapping.specs.declared.geometry.Colour.{Colour}
use Rattle.canvas.specs.Ppm.{header, raster}
use Rattle.draw_ops.specs.declared.rules.Rules.{Rules}
use Rattle.dc_stack.specs.State.{start_of}
use Rattle.meta_headers.specs.Opening.{surface_for}
use Rattle.preflight_cert.specs.Apply.{image_after}
use Rattle.preflight_cert.specs.Drawings.{drawings_of}
use Rattle.preflight_cert.specs.RowsLaws.{IsWholeImage, RowsLaws}
use Rattle.preflight_cert.specs.Run.{Run, shown, white}
use Rattle.player.specs.Bands.{IsRunText}
use Rattle.buffer_calls.specs.Plays.{HasSamples, sample_count}

-- three samples for each colour
length-raster : (colours : List Colour) → length (raster colours) ≡ 3 * length colours
length-raster [] = refl
length-raster (colour ∷ colours) = let later = length-raster colours in omega (arith, later)

-- an image of this size, with a colour for each pixel
record IsSized (width height : ℕ) (image : Image) : Type 0 where
  wide : image.width ≡ width
  high : image.height ≡ height
  whole : length image.colours ≡ height * width

-- the image that a run makes on white has the size of the surface
sized : RowsLaws → (rules : Rules) (file : List ℕ) (width height : ℕ) (image : Image) → 1 ≤ width → Run rules file width height (white width height) (shown image) → IsSized width height image
sized laws rules file width height image some run =
    let drawings = drawings_of run.content.steps (start_of run.headers) in
    let s = surface_for run.headers width height in
    let after = image_after drawings s (white width height) in
    let sides = laws.dimensions drawings s 0 (white width height) in
    let start : IsWholeImage (white width height) = record { wide = some; whole = length-replicate (height * width) white_colour } in
    let whole : length after.colours ≡ height * width = (sides.whole start).whole ∙ ap (λ (n : ℕ). n * after.width) sides.height ∙ ap (λ (n : ℕ). height * n) sides.width in
    subst (λ (i : Image). IsSized width height i) (sym run.shows) (record { wide = sides.width; high = sides.height; whole = whole })

-- the product in another order
three_times : (width height : ℕ) → 3 * (height * width) ≡ sample_count width height
three_times width height = ap (λ (n : ℕ). 3 * n) (mul_comm height width) ∙ sym (mul_assoc 3 width height)

module _ (laws : RowsLaws) (rules : Rules) (file : List ℕ) (width height : ℕ) (some : 1 ≤ width) (head after text : List ℕ)
    (run : IsRunText rules file width height (white width height) text) (of_header : length head ≡ length (header width height))
    (of_samples : length after ≡ sample_count width height) where
  size : IsSized width height run.image
  size = sized laws rules file width height run.image some run.run

  split : text ≡ header width height ++ raster run.image.colours
  split =
      run.is_text ∙ ap (λ (n : ℕ). header n run.image.height ++ raster run.image.colours) size.wide
      ∙ ap (λ (n : ℕ). header width n ++ raster run.image.colours) size.high

  -- the text is as long as header and samples
  long : length text ≡ length (head ++ after)
  long =
      let count = length-raster run.image.colours ∙ ap (λ (n : ℕ). 3 * n) size.whole ∙ three_times width height in
      let of_text = ap length split ∙ length-append (header width height) (raster run.image.colours) in
      let of_both = length-append head after in
      omega (arith, count, of_text, of_both, of_header, of_samples)

  -- if header and samples are the text, the samples are the raster
  whole : head ++ after ≡ text → HasSamples rules file width height (white width height) after
  whole same = record {
    image = run.image;
    run = run.run;
    is_raster =
        sym (drop_at head after (length head) refl) ∙ ap (drop (length head)) (same ∙ split)
        ∙ drop_at (header width height) (raster run.image.colours) (length head) (sym of_header);
  }

  -- a writer accepted the whole text
  whole_samples : (written : ℕ) → take written (head ++ after) ≡ text → HasSamples rules file width height (white width height) after
  whole_samples written same =
      let count : length (take written (head ++ after)) ≡ length (head ++ after) = ap length same ∙ long in
      let cut = length-take written (head ++ after) in
      whole (sym (take_all written (head ++ after) (omega (arith, count, cut))) ∙ same)

  -- a writer accepted a prefix of the text, and is full
  full_samples : (sent unsent : List ℕ) → text ≡ sent ++ unsent → head ++ after ≡ sent → HasSamples rules file width height (white width height) after
  full_samples sent unsent prefix full =
      let count = ap length prefix ∙ length-append sent unsent in
      let filled = ap length full in
      let all = long in
      let none = nil_from_length unsent (omega (arith, count, filled, all)) in
      whole (full ∙ sym (prefix ∙ ap (λ (rest : List ℕ). sent ++ rest) none ∙ append-nil sent))

-- What is known of a buffer after a writer had it: it has as many bytes as before, and if the writer kept the buffer, it
-- holds what the writer left.
abbrev pub IsBack : ℕ → ℕ → List ℕ → List ℕ → List ℕ → Type 0
IsBack name named before after final = (length final ≡ length before) × (name ≡ named → final ≡ after)

module _ (name named : ℕ) (before after final : List ℕ) (back : IsBack name named before after final) where
  -- the buffer has the samples after the whole text was accepted
  pub played :
      RowsLaws → (rules : Rules) (file : List ℕ) (width height : ℕ) → 1 ≤ width → (head text : List ℕ) (written : ℕ) → IsRunText rules file width height (white width height) text
      → length head ≡ length (header width height) → length before ≡ sample_count width height
      → named ∷ take written (head ++ after) ≡ name ∷ text → HasSamples rules file width height (white width height) final
  played laws rules file width height some head text written run of_header of_samples holds =
      let same : name ≡ named = cc in
      let accepted : take written (head ++ after) ≡ text = cc in
      let is = back.1 same in
      let size = sym (ap length is) ∙ back.0 ∙ of_samples in
      subst (λ (s : List ℕ). HasSamples rules file width height (white width height) s) (sym is) (whole_samples laws rules file width height some head after text run of_header size written accepted)

  -- the same if the writer is full
  pub filled :
      RowsLaws → (rules : Rules) (file : List ℕ) (width height : ℕ) → 1 ≤ width → (head text sent unsent : List ℕ) (written : ℕ)
      → IsRunText rules file width height (white width height) text → length head ≡ length (header width height) → length before ≡ sample_count width height
      → text ≡ sent ++ unsent → written ≡ length head + length after → named ∷ take written (head ++ after) ≡ name ∷ sent
      → HasSamples rules file width height (white width height) final
  filled laws rules file width height some head text sent unsent written run of_header of_samples prefix full holds =
      let same : name ≡ named = cc in
      let accepted : take written (head ++ after) ≡ sent = cc in
      let is = back.1 same in
      let size = sym (ap length is) ∙ back.0 ∙ of_samples in
      let both = length-append head after in
      let all = sym (take_all written (head ++ after) (omega (arith, both, full))) ∙ accepted in
      subst (λ (s : List ℕ). HasSamples rules file width height (white width height) s) (sym is) (full_samples laws rules file width height some head after text run of_header size sent unsent prefix all)

  -- the buffer is unchanged after nothing was accepted
  pub unplayed :
      (head : List ℕ) (skipped written : ℕ) → length head ≡ skipped → written ≤ skipped + length after
      → drop (written - skipped) after ≡ drop (written - skipped) before → named ∷ take written (head ++ after) ≡ name ∷ [] → final ≡ before
  unplayed head skipped written of_head within kept holds =
      let same : name ≡ named = cc in
      let none : take written (head ++ after) ≡ [] = cc in
      let both = length-append head after in
      let count = length-take-le written (head ++ after) (omega (arith, both, of_head, within)) in
      let zero = ap length none in
      let first : written - skipped ≡ 0 = omega (arith, count, zero) in
      back.1 same ∙ subst (λ (n : ℕ). drop n after ≡ drop n before) first kept
