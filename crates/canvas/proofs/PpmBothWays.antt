-- A text that says an image is read as it, and what is read is said.
use Rattle.std.proofs.Common.{◌≡◌, ◌==◌, ℕ, ◌+◌, ◌-◌, ◌*◌, ◌^◌, ◌<◌, ◌≤◌, Bool, true, false, ◌&&◌, leb, is_some, List, [], ◌∷◌, ◌++◌, length, drop, get_or, take_while, fold, codes, decimal, Some, None, Option, refl, sym, ap, subst, ◌∙◌, arith, rules}
use Rattle.std.specs.List.{AllByRecursion, prefix_len}
use Rattle.std.specs.Char.{is_ascii_digit}
use Rattle.std.proofs.lemmas.Bool.{true≢false, and_parts, and_from, cond-true, cond-false, eqb-true, leb-true, le-leb}
use Rattle.std.proofs.lemmas.List.{take-append-drop, drop-drop, get_or-drop, append_assoc, append-nil, length-append}
use Rattle.std.proofs.lemmas.List.Sums.{take_while-cons}
use Rattle.std.proofs.lemmas.Str.Parse.{IsNumeralModel, numerals_by_fold}
use Rattle.std.proofs.lemmas.Fmt.{digits_decimal, digits_value-decimal, decimal_nonempty}
use Rattle.mapping.specs.declared.geometry.Colour.{Colour}
use Rattle.mapping.specs.Image.{Image}
use Rattle.mapping.specs.Limits.{is_surface_side, surface_side_from, surface_side_true}
use Rattle.canvas.specs.Ppm.{raster, ppm_text}
use Rattle.canvas.specs.PpmReading.{AreItems, IsGap, WritesNumber, IsPpm, is_white, ends_line, is_in_gap, after_gap, after_digits, prefix_number, number_of_digits, colours_at, ends_head, has_head, has_image, begins_ppm, pixels_of, read_ppm, width_text, height_text, most_text, space_text}
use Rattle.canvas.specs.PpmReading.AreItems.{no_item, white_item, comment_item}
use Rattle.canvas.specs.PpmLaws.{IsSurfaceImage, PpmLaws}
use Rattle.canvas.proofs.PpmLawLemmas.{OneLine, white_in_gap, white_no_comment, white_no_digit, gap_no_digit, comment_goes_on, comment_ends, reads_number, gap_begins, length-raster, colours_back, samples_back}
use Rattle.canvas.proofs.ReadingLemmas.{length-colours_at}

-- a number that is there has digits
digits_of_text : (text : List ℕ) → AllByRecursion (λ byte. is_ascii_digit byte ≡ true) (take_while is_ascii_digit text)
digits_of_text [] = tt
digits_of_text (b ∷ text) = go (digits_of_text text) (is_ascii_digit b) refl
  where
    go : AllByRecursion (λ byte. is_ascii_digit byte ≡ true) (take_while is_ascii_digit text) → (t : Bool) → is_ascii_digit b ≡ t → AllByRecursion (λ byte. is_ascii_digit byte ≡ true) (take_while is_ascii_digit (b ∷ text))
    go others true e = rw (take_while-cons is_ascii_digit b text, e) (e, others)
    go others false e = rw (take_while-cons is_ascii_digit b text, e) tt

no_digits_zero : (text : List ℕ) → 1 ≤ prefix_number text → 1 ≤ length (take_while is_ascii_digit text)
no_digits_zero text h = go (take_while is_ascii_digit text) refl
  where
    go : (ds : List ℕ) → take_while is_ascii_digit text ≡ ds → 1 ≤ length ds
    go [] e = absurd (omega (arith, h, ap number_of_digits e))
    go (d ∷ ds) e = omega arith

drop_one : (n b : ℕ) (text : List ℕ) → drop (1 + n) (b ∷ text) ≡ drop n text
drop_one n b text = sym (drop-drop n 1 (b ∷ text))

-- no digit stands behind the digits
no_digit_after : (text : List ℕ) → is_ascii_digit (get_or (after_digits text) 0 0) ≡ false
no_digit_after [] = refl
no_digit_after (b ∷ text) = go (no_digit_after text) (is_ascii_digit b) refl
  where
    go : is_ascii_digit (get_or (after_digits text) 0 0) ≡ false → (t : Bool) → is_ascii_digit b ≡ t → is_ascii_digit (get_or (after_digits (b ∷ text)) 0 0) ≡ false
    go others true e = rw (e, drop_one (prefix_len is_ascii_digit text) b text) others
    go others false e = rw e e

first_digit : (digits rest : List ℕ) → AllByRecursion (λ byte. is_ascii_digit byte ≡ true) digits → 1 ≤ length digits → is_ascii_digit (get_or (digits ++ rest) 0 0) ≡ true
first_digit [] rest h some = absurd (omega (arith, some))
first_digit (d ∷ digits) rest h some = h.0

-- what a gap is gone over: its items, or the rest of a comment and items behind it
record GoneOver (text rest : List ℕ) : Type 0 where
  items : List ℕ
  is : text ≡ items ++ rest
  are : AreItems items

record LeftComment (text rest : List ℕ) : Type 0 where
  words : List ℕ
  end : ℕ
  items : List ℕ
  is : text ≡ words ++ (end ∷ (items ++ rest))
  one_line : OneLine words
  ended : ends_line end ≡ true
  are : AreItems items

abbrev Went : Bool → List ℕ → List ℕ → Type 0
Went false text rest = GoneOver text rest
Went true text rest = LeftComment text rest

went : (in_comment : Bool) (text : List ℕ) → 1 ≤ length (after_gap in_comment text) → Went in_comment text (after_gap in_comment text)
went in_comment [] h = absurd (omega (arith, h))
went false (b ∷ text) h = go (λ m. went true text m) (λ m. went false text m) (b == 35) (is_white b) refl refl
  where
    go : (1 ≤ length (after_gap true text) → LeftComment text (after_gap true text)) → (1 ≤ length (after_gap false text) → GoneOver text (after_gap false text)) → (c w : Bool) → (b == 35) ≡ c → is_white b ≡ w → GoneOver (b ∷ text) (after_gap false (b ∷ text))
    go words others true w e f =
        let hash : b ≡ 35 = eqb-true b 35 e in
        let on : after_gap false (b ∷ text) ≡ after_gap true text = ap (λ a. after_gap false (a ∷ text)) hash in
        let rest = words (subst (λ (t : List ℕ). 1 ≤ length t) on h) in
        subst (λ (t : List ℕ). GoneOver (b ∷ text) t) (sym on)
        record {
          items = 35 ∷ (rest.words ++ (rest.end ∷ rest.items));
          is = ap (λ a. a ∷ text) hash ∙ ap (λ (t : List ℕ). 35 ∷ t) (rest.is ∙ sym (append_assoc rest.words (rest.end ∷ rest.items) (after_gap true text)));
          are = comment_item rest.words rest.end rest.items rest.one_line rest.ended rest.are;
        }
    go words others false true e f =
        let on : after_gap false (b ∷ text) ≡ after_gap false text = rw (white_in_gap b f, white_no_comment b f) refl in
        let rest = others (subst (λ (t : List ℕ). 1 ≤ length t) on h) in
        subst (λ (t : List ℕ). GoneOver (b ∷ text) t) (sym on)
        record { items = b ∷ rest.items; is = ap (λ (t : List ℕ). b ∷ t) rest.is; are = white_item b rest.items f rest.are }
    go words others false false e f =
        let on : after_gap false (b ∷ text) ≡ b ∷ text = rw (e, f) refl in
        subst (λ (t : List ℕ). GoneOver (b ∷ text) t) (sym on) record { items = []; is = refl; are = no_item }
went true (b ∷ text) h = go (λ m. went true text m) (λ m. went false text m) (ends_line b) refl
  where
    go : (1 ≤ length (after_gap true text) → LeftComment text (after_gap true text)) → (1 ≤ length (after_gap false text) → GoneOver text (after_gap false text)) → (t : Bool) → ends_line b ≡ t → LeftComment (b ∷ text) (after_gap true (b ∷ text))
    go words others true e =
        let on : after_gap true (b ∷ text) ≡ after_gap false text = rw (comment_ends b e) refl in
        let rest = others (subst (λ (t : List ℕ). 1 ≤ length t) on h) in
        subst (λ (t : List ℕ). LeftComment (b ∷ text) t) (sym on)
        record { words = []; end = b; items = rest.items; is = ap (λ (t : List ℕ). b ∷ t) rest.is; one_line = tt; ended = e; are = rest.are }
    go words others false e =
        let on : after_gap true (b ∷ text) ≡ after_gap true text = rw (comment_goes_on b e) refl in
        let rest = words (subst (λ (t : List ℕ). 1 ≤ length t) on h) in
        subst (λ (t : List ℕ). LeftComment (b ∷ text) t) (sym on)
        record { words = b ∷ rest.words; end = rest.end; items = rest.items; is = ap (λ (t : List ℕ). b ∷ t) rest.is; one_line = (e, rest.one_line); ended = rest.ended; are = rest.are }

-- a number that was read is said, with a gap before it
record Said (text : List ℕ) : Type 0 where
  gap : List ℕ
  digits : List ℕ
  is : text ≡ gap ++ (digits ++ after_digits (after_gap false text))
  gapped : IsGap gap
  writes : WritesNumber digits (prefix_number (after_gap false text))

said : (text : List ℕ) → is_ascii_digit (get_or text 0 0) ≡ false → 1 ≤ prefix_number (after_gap false text) → Said text
said text first number =
    let at = after_gap false text in
    let digits = take_while is_ascii_digit at in
    let some : 1 ≤ length digits = no_digits_zero at number in
    let each : AllByRecursion (λ byte. is_ascii_digit byte ≡ true) digits = digits_of_text at in
    let parts : digits ++ after_digits at ≡ at = take-append-drop (prefix_len is_ascii_digit at) at in
    let long : 1 ≤ length at = subst (λ (t : List ℕ). 1 ≤ length t) parts (omega (arith, some, length-append digits (after_digits at))) in
    let over = went false text long in
    let starts : is_ascii_digit (get_or at 0 0) ≡ true = subst (λ (t : List ℕ). is_ascii_digit (get_or t 0 0) ≡ true) parts (first_digit digits (after_digits at) each some) in
    record {
      gap = over.items;
      digits = digits;
      is = over.is ∙ ap (λ (t : List ℕ). over.items ++ t) (sym parts);
      gapped = record { items = over.are; some = nonempty over.items over.is starts };
      writes = record { each = each; some = some; value = refl };
    }
  where
    nonempty : (items : List ℕ) → text ≡ items ++ after_gap false text → is_ascii_digit (get_or (after_gap false text) 0 0) ≡ true → 1 ≤ length items
    nonempty [] e starts = absurd (true≢false (sym (subst (λ (t : List ℕ). is_ascii_digit (get_or t 0 0) ≡ true) (sym e) starts) ∙ first))
    nonempty (b ∷ items) e starts = omega arith

same_image : (width height : ℕ) (colours : List Colour) (image : Image) → width ≡ image.width → height ≡ image.height → colours ≡ image.colours → record { width = width; height = height; colours = colours } ≡ image
same_image width height colours image e f g = rw (e, f, g) refl

-- a text that says an image is read as it
to_read : (text : List ℕ) (image : Image) → IsPpm text image → read_ppm text ≡ Some image
to_read text image p =
    let t4 = p.space ∷ (raster image.colours ++ p.after) in
    let t3 = p.third_gap ++ (p.most ++ t4) in
    let t2 = p.second_gap ++ (p.height ++ t3) in
    let w = reads_number p.first_gap p.width t2 image.width p.gap_first p.wide (gap_no_digit (get_or t2 0 0) (gap_begins p.second_gap (p.height ++ t3) p.gap_second)) in
    let h = reads_number p.second_gap p.height t3 image.height p.gap_second p.high (gap_no_digit (get_or t3 0 0) (gap_begins p.third_gap (p.most ++ t4) p.gap_third)) in
    let m = reads_number p.third_gap p.most t4 255 p.gap_third p.greatest (white_no_digit p.space p.white) in
    let first : drop 2 text ≡ p.first_gap ++ (p.width ++ t2) = ap (λ (t : List ℕ). drop 2 t) p.is in
    let wn : prefix_number (width_text text) ≡ image.width = ap (λ (t : List ℕ). prefix_number (after_gap false t)) first ∙ w.value in
    let second : after_digits (width_text text) ≡ t2 = ap (λ (t : List ℕ). after_digits (after_gap false t)) first ∙ w.after in
    let hn : prefix_number (height_text text) ≡ image.height = ap (λ (t : List ℕ). prefix_number (after_gap false t)) second ∙ h.value in
    let third : after_digits (height_text text) ≡ t3 = ap (λ (t : List ℕ). after_digits (after_gap false t)) second ∙ h.after in
    let mn : prefix_number (most_text text) ≡ 255 = ap (λ (t : List ℕ). prefix_number (after_gap false t)) third ∙ m.value in
    let fourth : space_text text ≡ t4 = ap (λ (t : List ℕ). after_digits (after_gap false t)) third ∙ m.after in
    let samples : drop 1 (space_text text) ≡ raster image.colours ++ p.after = ap (λ (t : List ℕ). drop 1 t) fourth in
    let count : pixels_of text ≡ length image.colours = ap (λ n. n * prefix_number (width_text text)) hn ∙ ap (λ n. image.height * n) wn ∙ sym p.whole in
    let begins : begins_ppm text ≡ true = ap begins_ppm p.is ∙ gap_begins p.first_gap (p.width ++ t2) p.gap_first in
    let wide : is_surface_side (prefix_number (width_text text)) ≡ true = ap is_surface_side wn ∙ surface_side_from image.width p.wide_side in
    let high : is_surface_side (prefix_number (height_text text)) ≡ true = ap is_surface_side hn ∙ surface_side_from image.height p.high_side in
    let most : (prefix_number (most_text text) == 255) ≡ true = ap (λ n. n == 255) mn in
    let white : is_white (get_or (space_text text) 0 0) ≡ true = ap (λ (t : List ℕ). is_white (get_or t 0 0)) fourth ∙ p.white in
    let long : 3 * pixels_of text ≤ length (drop 1 (space_text text)) =
    omega (arith, count, ap length samples, length-append (raster image.colours) p.after, length-raster image.colours) in
    let has : has_image text ≡ true =
    and_from _ _ (and_from _ _ begins (and_from _ _ (and_from _ _ (and_from _ _ wide high) most) white)) (le-leb _ _ long) in
    let colours : colours_at (pixels_of text) (drop 1 (space_text text)) ≡ image.colours =
    ap (λ n. colours_at n (drop 1 (space_text text))) count ∙ ap (λ (t : List ℕ). colours_at (length image.colours) t) samples ∙ colours_back image.colours p.after in
    cond-true (has_image text) _ _ has ∙ ap Some (same_image _ _ _ image wn hn colours)

two_bytes : (text : List ℕ) → get_or text 0 0 ≡ 80 → get_or text 1 0 ≡ 54 → text ≡ 80 ∷ 54 ∷ drop 2 text
two_bytes [] e f = absurd (omega (arith, e))
two_bytes (a ∷ []) e f = absurd (omega (arith, f))
two_bytes (a ∷ b ∷ text) e f = rw (e, f) refl

first_white : (text : List ℕ) → is_white (get_or text 0 0) ≡ true → text ≡ get_or text 0 0 ∷ drop 1 text
first_white [] e = absurd (true≢false (sym e))
first_white (a ∷ text) e = refl

-- the image that is read
abbrev image_in : List ℕ → Image
image_in text = record { width = prefix_number (width_text text); height = prefix_number (height_text text); colours = colours_at (pixels_of text) (drop 1 (space_text text)) }

said_image : (text : List ℕ) → has_image text ≡ true → IsPpm text (image_in text)
said_image text e =
    let all = and_parts (has_head text) (leb (3 * pixels_of text) (length (drop 1 (space_text text)))) e in
    let head = and_parts (begins_ppm text) (ends_head (prefix_number (width_text text)) (prefix_number (height_text text)) (prefix_number (most_text text)) (space_text text)) all.0 in
    let white = and_parts (is_surface_side (prefix_number (width_text text)) && is_surface_side (prefix_number (height_text text)) && (prefix_number (most_text text) == 255)) (is_white (get_or (space_text text) 0 0)) head.1 in
    let most = and_parts (is_surface_side (prefix_number (width_text text)) && is_surface_side (prefix_number (height_text text))) (prefix_number (most_text text) == 255) white.0 in
    let dimensions = and_parts (is_surface_side (prefix_number (width_text text))) (is_surface_side (prefix_number (height_text text))) most.0 in
    let gap = and_parts ((get_or text 0 0 == 80) && (get_or text 1 0 == 54)) (is_in_gap false (get_or text 2 0)) head.0 in
    let magic = and_parts (get_or text 0 0 == 80) (get_or text 1 0 == 54) gap.0 in
    let wide_side = surface_side_true (prefix_number (width_text text)) dimensions.0 in
    let high_side = surface_side_true (prefix_number (height_text text)) dimensions.1 in
    let greatest : prefix_number (most_text text) ≡ 255 = eqb-true (prefix_number (most_text text)) 255 most.1 in
    let first : is_ascii_digit (get_or (drop 2 text) 0 0) ≡ false = ap is_ascii_digit (get_or-drop 2 text 0 0) ∙ gap_no_digit (get_or text 2 0) gap.1 in
    let s1 = said (drop 2 text) first wide_side.not_empty in
    let s2 = said (after_digits (width_text text)) (no_digit_after (width_text text)) high_side.not_empty in
    let s3 = said (after_digits (height_text text)) (no_digit_after (height_text text)) (omega (arith, greatest)) in
    let rest = drop 1 (space_text text) in
    let samples = samples_back (pixels_of text) rest (leb-true (3 * pixels_of text) (length rest) all.1) in
    record {
      first_gap = s1.gap;
      width = s1.digits;
      second_gap = s2.gap;
      height = s2.digits;
      third_gap = s3.gap;
      most = s3.digits;
      space = get_or (space_text text) 0 0;
      after = drop (3 * pixels_of text) rest;
      is = two_bytes text (eqb-true (get_or text 0 0) 80 magic.0) (eqb-true (get_or text 1 0) 54 magic.1) ∙ ap (λ (t : List ℕ). 80 ∷ 54 ∷ t)
          (s1.is ∙ ap (λ (t : List ℕ). s1.gap ++ (s1.digits ++ t))
          (s2.is ∙ ap (λ (t : List ℕ). s2.gap ++ (s2.digits ++ t))
          (s3.is ∙ ap (λ (t : List ℕ). s3.gap ++ (s3.digits ++ t))
          (first_white (space_text text) white.1 ∙ ap (λ (t : List ℕ). get_or (space_text text) 0 0 ∷ t) (sym samples)))));
      gap_first = s1.gapped;
      gap_second = s2.gapped;
      gap_third = s3.gapped;
      wide = s1.writes;
      high = s2.writes;
      greatest = subst (λ (n : ℕ). WritesNumber s3.digits n) greatest s3.writes;
      white = white.1;
      wide_side = wide_side;
      high_side = high_side;
      whole = length-colours_at (pixels_of text) rest;
    }

-- what is read is said
from_read : (text : List ℕ) (image : Image) → read_ppm text ≡ Some image → IsPpm text image
from_read text image e = go (has_image text) refl
  where
    got : Option Image → Image
    got None = image
    got (Some other) = other

    go : (t : Bool) → has_image text ≡ t → IsPpm text image
    go true h = subst (λ (i : Image). IsPpm text i) (ap got (sym (cond-true (has_image text) (Some (image_in text)) None h) ∙ e)) (said_image text h)
    go false h = absurd (true≢false (ap is_some (sym e) ∙ ap is_some (cond-false (has_image text) (Some (image_in text)) None h)))

-- decimal digits write their number
own : IsNumeralModel (λ ds. AllByRecursion (λ byte. is_ascii_digit byte ≡ true) ds) number_of_digits
own = numerals_by_fold _ (search rules) (λ n ds. fold (λ number digit. number * 10 + (digit - 48)) n ds) (search rules)

decimal_writes : (n : ℕ) → n < 2 ^ 64 → WritesNumber (decimal n) n
decimal_writes n h = record { each = digits_decimal own n h; some = decimal_nonempty n h; value = sym (digits_value-decimal own n h) }

one_byte : (byte : ℕ) → is_white byte ≡ true → IsGap (byte ∷ [])
one_byte byte h = record { items = white_item byte [] h no_item; some = omega arith }

spelled : (wide high samples : List ℕ) →
    codes "P6\n" ++ wide ++ codes " " ++ high ++ codes "\n255\n" ++ samples
    ≡ 80 ∷ 54 ∷ ((10 ∷ []) ++ (wide ++ ((32 ∷ []) ++ (high ++ ((10 ∷ []) ++ ((50 ∷ 53 ∷ 53 ∷ []) ++ (10 ∷ (samples ++ []))))))))
spelled wide high samples = simp (append_assoc, append-nil) refl

reads_back : (image : Image) → IsSurfaceImage image → read_ppm (ppm_text image) ≡ Some image
reads_back image s =
    let low = s.wide.within in
    let lower = s.high.within in
    to_read (ppm_text image) image record {
      first_gap = 10 ∷ [];
      width = decimal image.width;
      second_gap = 32 ∷ [];
      height = decimal image.height;
      third_gap = 10 ∷ [];
      most = 50 ∷ 53 ∷ 53 ∷ [];
      space = 10;
      after = [];
      is = spelled (decimal image.width) (decimal image.height) (raster image.colours);
      gap_first = one_byte 10 refl;
      gap_second = one_byte 32 refl;
      gap_third = one_byte 10 refl;
      wide = decimal_writes image.width (omega (arith, low));
      high = decimal_writes image.height (omega (arith, lower));
      greatest = record { each = (refl, (refl, (refl, tt))); some = omega arith; value = refl };
      white = refl;
      wide_side = s.wide;
      high_side = s.high;
      whole = s.whole;
    }

pub ppm_laws : PpmLaws
ppm_laws = record { reads = λ text image. (from_read text image, to_read text image); reads_back = reads_back }
