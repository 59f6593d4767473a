-- Parts of a P6 text: gaps, numbers and samples.
use Rattle.std.proofs.Common.{◌≡◌, ◌==◌, ℕ, zero, suc, ◌+◌, ◌*◌, ◌<◌, Bool, true, false, ◌&&◌, leb, eqb, min, subst, List, [], ◌∷◌, ◌++◌, length, drop, get_or, refl, sym, ap, ◌∙◌, arith}
use Rattle.std.proofs.lemmas.Bool.{leb-true, leb-false, lt-leb, eqb-true, and_parts}
use Rattle.std.proofs.lemmas.List.{get_or-drop, drop-drop}
use Rattle.std.proofs.Math.Bool.{and-false}
use Rattle.mapping.specs.declared.geometry.Colour.{Colour}
use Rattle.mapping.specs.Limits.{is_surface_side, surface_side_true}
use Rattle.canvas.specs.PpmHead.{IsHeadOf, IsNumberAt}
use Rattle.canvas.specs.PpmReading.{begins_ppm, after_gap, colours_at, ends_head, has_head, height_text, is_white, most_text, prefix_number, space_text, width_text}
use Rattle.canvas.specs.declared.reading.NumberRead.{NumberRead}
use Rattle.canvas.specs.declared.reading.PpmHead.{PpmHead}

-- the colour of three samples
abbrev pub sampled : List ℕ → ℕ → Colour
sampled text at = record { r = get_or text at 0; g = get_or text (at + 1) 0; b = get_or text (at + 2) 0 }

moved : (text : List ℕ) (i j : ℕ) → i ≡ 3 + j → sampled (drop 3 text) j ≡ sampled text i
moved text i j e =
    let second : 3 + (j + 1) ≡ i + 1 = omega (arith, e) in
    let third : 3 + (j + 2) ≡ i + 2 = omega (arith, e) in
    let r : get_or (drop 3 text) j 0 ≡ get_or text i 0 = get_or-drop 3 text j 0 ∙ ap (λ n. get_or text n 0) (sym e) in
    let g : get_or (drop 3 text) (j + 1) 0 ≡ get_or text (i + 1) 0 = get_or-drop 3 text (j + 1) 0 ∙ ap (λ n. get_or text n 0) second in
    let b : get_or (drop 3 text) (j + 2) 0 ≡ get_or text (i + 2) 0 = get_or-drop 3 text (j + 2) 0 ∙ ap (λ n. get_or text n 0) third in
    rw (r, g, b) refl

-- one colour more is the one behind those so far
one_more : (count : ℕ) (text : List ℕ) (at : ℕ) → at ≡ 3 * count → colours_at (suc count) text ≡ colours_at count text ++ (sampled text at ∷ [])
one_more zero text at e = ap (λ n. sampled text n ∷ []) (sym e)
one_more (suc count) text at e =
    let next : at ≡ 3 + 3 * count = omega (arith, e) in
    ap (λ (cs : List Colour). sampled text 0 ∷ cs) (one_more count (drop 3 text) (3 * count) refl)
    ∙ ap (λ (c : Colour). sampled text 0 ∷ (colours_at count (drop 3 text) ++ (c ∷ []))) (moved text at (3 * count) next)

pub colours_more : (count more : ℕ) (text : List ℕ) → more ≡ count + 1 → colours_at more text ≡ colours_at count text ++ (sampled text (3 * count) ∷ [])
colours_more count more text e =
    let next : more ≡ suc count = omega (arith, e) in
    ap (λ n. colours_at n text) next ∙ one_more count text (3 * count) refl

-- so many colours, and then more, are read behind the samples of the first
pub colours_at-add : (count more : ℕ) (text : List ℕ) → colours_at (count + more) text ≡ colours_at count text ++ colours_at more (drop (3 * count) text)
colours_at-add zero more text =
    let all : 0 + more ≡ more = omega arith in
    let none : 0 ≡ 3 * 0 = omega arith in
    ap (λ n. colours_at n text) all ∙ ap (λ n. colours_at more (drop n text)) none
colours_at-add (suc count) more text =
    let all : suc count + more ≡ suc (count + more) = omega arith in
    let after : 3 + 3 * count ≡ 3 * suc count = omega arith in
    ap (λ n. colours_at n text) all
    ∙ ap (λ (cs : List Colour). sampled text 0 ∷ cs) (colours_at-add count more (drop 3 text))
    ∙ ap (λ (rest : List ℕ). sampled text 0 ∷ (colours_at count (drop 3 text) ++ colours_at more rest)) (drop-drop (3 * count) 3 text ∙ ap (λ n. drop n text) after)

-- there are as many as were asked for
pub length-colours_at : (count : ℕ) (text : List ℕ) → length (colours_at count text) ≡ count
length-colours_at zero text = refl
length-colours_at (suc count) text = ap suc (length-colours_at count (drop 3 text))

-- a number is as far from a side, and from 255, as it is where it is told as 9,999 at most
capped_side : (n : ℕ) → is_surface_side (min n 9999) ≡ is_surface_side n
capped_side n = go (leb n 9999) refl
  where
    go : (t : Bool) → leb n 9999 ≡ t → is_surface_side (min n 9999) ≡ is_surface_side n
    go true e =
        let h = leb-true n 9999 e in
        let same : min n 9999 ≡ n = omega (arith, h) in
        ap is_surface_side same
    go false e =
        let h = leb-false n 9999 e in
        let same : min n 9999 ≡ 9999 = omega (arith, h) in
        let high : leb n 8192 ≡ false = lt-leb n 8192 (omega (arith, h)) in
        ap is_surface_side same ∙ sym (ap (λ b. leb 1 n && b) high ∙ and-false (leb 1 n))

capped_most : (n : ℕ) → (min n 9999 == 255) ≡ (n == 255)
capped_most n = go (leb n 9999) (eqb n 255) refl refl
  where
    go : (t u : Bool) → leb n 9999 ≡ t → eqb n 255 ≡ u → (min n 9999 == 255) ≡ (n == 255)
    go true u e f =
        let h = leb-true n 9999 e in
        let same : min n 9999 ≡ n = omega (arith, h) in
        ap (λ m. m == 255) same
    go false true e f =
        let h = leb-false n 9999 e in
        let is = eqb-true n 255 f in
        absurd (omega (arith, h, is))
    go false false e f =
        let h = leb-false n 9999 e in
        let same : min n 9999 ≡ 9999 = omega (arith, h) in
        ap (λ m. m == 255) same ∙ sym f

-- the three numbers of a header, each behind the one before
module _ (text : List ℕ) (w h m : NumberRead)
    (first : IsNumberAt text (after_gap false (drop 2 text)) w)
    (second : IsNumberAt text (after_gap false (drop w.end text)) h)
    (third : IsNumberAt text (after_gap false (drop h.end text)) m) where
  high : IsNumberAt text (height_text text) h
  high = subst (λ (t : List ℕ). IsNumberAt text (after_gap false t) h) first.after second

  most : IsNumberAt text (most_text text) m
  most = subst (λ (t : List ℕ). IsNumberAt text (after_gap false t) m) high.after third

  pub head_tests : begins_ppm text ≡ true → has_head text ≡ ends_head w.value h.value m.value (drop m.end text)
  head_tests begins =
      let a : is_surface_side (prefix_number (width_text text)) ≡ is_surface_side w.value = sym (ap is_surface_side first.value ∙ capped_side (prefix_number (width_text text))) in
      let b : is_surface_side (prefix_number (height_text text)) ≡ is_surface_side h.value = sym (ap is_surface_side high.value ∙ capped_side (prefix_number (height_text text))) in
      let c : (prefix_number (most_text text) == 255) ≡ (m.value == 255) = sym (ap (λ n. n == 255) most.value ∙ capped_most (prefix_number (most_text text))) in
      ap (λ t. t && ends_head (prefix_number (width_text text)) (prefix_number (height_text text)) (prefix_number (most_text text)) (space_text text)) begins
      ∙ ap (λ t. t && is_surface_side (prefix_number (height_text text)) && prefix_number (most_text text) == 255 && is_white (get_or (space_text text) 0 0)) a
      ∙ ap (λ t. is_surface_side w.value && t && prefix_number (most_text text) == 255 && is_white (get_or (space_text text) 0 0)) b
      ∙ ap (λ t. is_surface_side w.value && is_surface_side h.value && t && is_white (get_or (space_text text) 0 0)) c
      ∙ ap (λ (t : List ℕ). ends_head w.value h.value m.value t) (sym most.after)

  pub head_is : (head : PpmHead) → head.width ≡ w.value → head.height ≡ h.value → head.start ≡ m.end + 1
      → begins_ppm text ≡ true → ends_head w.value h.value m.value (drop m.end text) ≡ true
      → m.end < length text → IsHeadOf text head
  head_is head wide high_is start begins passes there =
      let white = and_parts (is_surface_side w.value && is_surface_side h.value && (m.value == 255)) (is_white (get_or (drop m.end text) 0 0)) passes in
      let value = and_parts (is_surface_side w.value && is_surface_side h.value) (m.value == 255) white.0 in
      let dimensions = and_parts (is_surface_side w.value) (is_surface_side h.value) value.0 in
      let low = (surface_side_true w.value dimensions.0).within in
      let lower = (surface_side_true h.value dimensions.1).within in
      let first_value = first.value in
      let high_value = high.value in
      record {
        there = head_tests begins ∙ passes;
        wide = wide ∙ (omega (arith, low, first_value));
        high = high_is ∙ (omega (arith, lower, high_value));
        raster = ap (λ n. drop n text) start ∙ sym (drop-drop 1 m.end text) ∙ ap (λ (t : List ℕ). drop 1 t) most.after;
        within = omega (arith, start, there);
      }
