-- Rows that are read from samples, one after another.
use Rattle.std.proofs.Common.{◌≡◌, ℕ, ◌+◌, ◌-◌, ◌*◌, ◌<◌, ◌≤◌, List, ◌++◌, length, take, drop, sym, ap, ◌∙◌, append_assoc, arith}
use Rattle.std.proofs.lemmas.List.{drop-drop, length-append, length-drop, length-take-le, take_at, take_rest}
use Rattle.std.proofs.lemmas.Nat.{row_fits}
use Rattle.mapping.specs.declared.geometry.Colour.{Colour}
use Rattle.canvas.specs.PpmReading.{colours_at}
use Rattle.canvas.specs.Rows.{row_colours}
use Rattle.canvas.proofs.ReadingLemmas.{colours_at-add, length-colours_at}
use Rattle.canvas.proofs.PartLemmas.{with_part}
use Rattle.canvas.proofs.RowLemmas.{length-row_colours, row_with_part}
use borrow.Rule.Slice.PartMut.{put_mid}

-- `made` is read into a row: with it one row more is that of the samples
module _ (rows width stride row place at k : ℕ) (made colours : List Colour) (samples : List ℕ)
    (wide : 1 ≤ width) (narrow : width ≤ stride) (whole : length colours ≡ rows * stride) (below : row < rows)
    (is_place : place ≡ row * stride + 0) (is_at : at ≡ row * width + 0) (count : k ≡ width)
    (read : made ≡ colours_at (length (take k (drop place colours))) (take (length samples - 3 * at) (drop (3 * at) samples))) where
  -- the row's samples stand behind those of the rows above
  made_is : made ≡ colours_at width (drop (3 * (row * width)) samples)
  made_is =
      let fits = row_fits row stride rows stride below (omega arith) in
      let long : length (take k (drop place colours)) ≡ width = length-take-le k (drop place colours) (omega (arith, length-drop place colours, fits)) ∙ count in
      let start : 3 * at ≡ 3 * (row * width) = omega arith in
      read ∙ ap (λ n. colours_at n (take (length samples - 3 * at) (drop (3 * at) samples))) long
      ∙ ap (colours_at width) (take_rest samples (3 * at) ∙ ap (λ n. drop n samples) start)

  long_made : length made ≡ width
  long_made = ap length made_is ∙ length-colours_at width (drop (3 * (row * width)) samples)

  written : put_mid place k colours made ≡ with_part (row * stride + 0) made colours
  written =
      let after : place + k ≡ row * stride + 0 + length made = omega (arith, long_made) in
      ap (λ (cs : List Colour). take place colours ++ (made ++ cs)) (drop-drop k place colours)
      ∙ ap (λ n. take place colours ++ (made ++ drop n colours)) after
      ∙ ap (λ n. take n colours ++ (made ++ drop (row * stride + 0 + length made) colours)) is_place

  pub one_row_more : take (row * width) (row_colours rows width stride colours) ≡ colours_at (row * width) samples → take ((row + 1) * width) (row_colours rows width stride (put_mid place k colours made)) ≡ colours_at ((row + 1) * width) samples
  one_row_more before =
      let fits = row_fits row width rows width below (omega arith) in
      let prefix = take (row * width) (row_colours rows width stride colours) in
      let rest = drop (row * width + 0 + length made) (row_colours rows width stride colours) in
      let next : row * width + width ≡ (row + 1) * width = omega arith in
      let first : row * width + 0 ≡ row * width = omega arith in
      let long_prefix : length prefix ≡ row * width = length-take-le (row * width) (row_colours rows width stride colours) (omega (arith, fits, length-row_colours rows width stride colours narrow (omega arith))) in
      let long : length (prefix ++ made) ≡ (row + 1) * width = length-append prefix made ∙ omega (arith, long_prefix, long_made) in
      ap (λ (cs : List Colour). take ((row + 1) * width) (row_colours rows width stride cs)) written
      ∙ ap (λ (cs : List Colour). take ((row + 1) * width) cs) (row_with_part rows width stride row 0 made colours wide narrow (omega arith) below (omega (arith, long_made)))
      ∙ ap (λ n. take ((row + 1) * width) (take n (row_colours rows width stride colours) ++ (made ++ rest))) first
      ∙ ap (λ (cs : List Colour). take ((row + 1) * width) cs) (sym (append_assoc prefix made rest))
      ∙ take_at (prefix ++ made) rest ((row + 1) * width) long
      ∙ ap (λ (cs : List Colour). cs ++ made) before
      ∙ ap (λ (cs : List Colour). colours_at (row * width) samples ++ cs) made_is
      ∙ sym (colours_at-add (row * width) width samples)
      ∙ ap (λ n. colours_at n samples) next
