-- What is read is the image that the text says.
use Rattle.std.proofs.Common.{◌≡◌, ℕ, zero, suc, ◌+◌, ◌*◌, ◌≤◌, true, false, List, [], ◌∷◌, ◌++◌, length, take, drop, get_or, refl, sym, ap, ◌∙◌, arith}
use Rattle.std.specs.List.{AllByRecursion, prefix_len}
use Rattle.std.specs.Char.{is_ascii_digit}
use Rattle.std.proofs.lemmas.List.{append_assoc, drop-drop}
use Rattle.mapping.specs.declared.geometry.Colour.{Colour}
use Rattle.canvas.specs.Ppm.{raster}
use Rattle.canvas.specs.PpmReading.{AreItems, IsGap, WritesNumber, is_white, ends_line, is_in_gap, is_in_comment, after_gap, after_digits, prefix_number, number_of_digits, colours_at}
use Rattle.canvas.specs.PpmReading.AreItems.{no_item, white_item, comment_item}

abbrev pub Digits : List ℕ → Type 0
Digits ds = AllByRecursion (λ byte. is_ascii_digit byte ≡ true) ds

abbrev pub OneLine : List ℕ → Type 0
OneLine ds = AllByRecursion (λ byte. ends_line byte ≡ false) ds

-- bytes: a white space byte, and a digit
pub white_in_gap : (b : ℕ) → is_white b ≡ true → is_in_gap false b ≡ true
white_in_gap b h = grind arith

pub white_no_comment : (b : ℕ) → is_white b ≡ true → is_in_comment false b ≡ false
white_no_comment b h = grind arith

pub white_no_digit : (b : ℕ) → is_white b ≡ true → is_ascii_digit b ≡ false
white_no_digit b h = grind arith

pub gap_no_digit : (b : ℕ) → is_in_gap false b ≡ true → is_ascii_digit b ≡ false
gap_no_digit b h = grind arith

pub digit_no_gap : (b : ℕ) → is_ascii_digit b ≡ true → is_in_gap false b ≡ false
digit_no_gap b h = grind arith

pub comment_goes_on : (b : ℕ) → ends_line b ≡ false → is_in_comment true b ≡ true
comment_goes_on b h = rw h refl

pub comment_ends : (b : ℕ) → ends_line b ≡ true → is_in_comment true b ≡ false
comment_ends b h = rw h refl

-- a comment ends behind its line's end
pub skips_words : (words : List ℕ) (end : ℕ) (rest : List ℕ) → OneLine words → ends_line end ≡ true → after_gap true (words ++ (end ∷ rest)) ≡ after_gap false rest
skips_words [] end rest h e = rw (comment_ends end e) refl
skips_words (b ∷ words) end rest h e = rw (comment_goes_on b h.0) (skips_words words end rest h.1 e)

-- the items of a gap are gone over
pub skips : (gap rest : List ℕ) → AreItems gap → after_gap false (gap ++ rest) ≡ after_gap false rest
skips gap rest no_item = refl
skips gap rest (white_item b items w are) = rw (white_in_gap b w, white_no_comment b w) (skips items rest are)
skips gap rest (comment_item words end items h e are) =
    rw (append_assoc words (end ∷ items) rest) (skips_words words end (items ++ rest) h e) ∙ skips items rest are

-- a digit ends a gap
pub stops : (digits rest : List ℕ) → Digits digits → 1 ≤ length digits → after_gap false (digits ++ rest) ≡ digits ++ rest
stops [] rest h some = absurd (omega (arith, some))
stops (d ∷ digits) rest h some = rw (digit_no_gap d h.0) refl

-- digits end where none stands
pub digits_long : (digits rest : List ℕ) → Digits digits → is_ascii_digit (get_or rest 0 0) ≡ false → prefix_len is_ascii_digit (digits ++ rest) ≡ length digits
digits_long [] [] h e = refl
digits_long [] (b ∷ rest) h e = rw e refl
digits_long (d ∷ digits) rest h e = rw (h.0, digits_long digits rest h.1 e) (omega arith)

pub drop_prefix : (prefix rest : List ℕ) → drop (length prefix) (prefix ++ rest) ≡ rest
drop_prefix [] rest = refl
drop_prefix (b ∷ prefix) rest = drop_prefix prefix rest

pub take_prefix : (prefix rest : List ℕ) → take (length prefix) (prefix ++ rest) ≡ prefix
take_prefix [] rest = refl
take_prefix (b ∷ prefix) rest = ap (λ r. b ∷ r) (take_prefix prefix rest)

-- a gap and a number are read
pub record Read (text rest : List ℕ) (number : ℕ) : Type 0 where
  pub value : prefix_number (after_gap false text) ≡ number
  pub after : after_digits (after_gap false text) ≡ rest

pub reads_number : (gap digits rest : List ℕ) (number : ℕ) → IsGap gap → WritesNumber digits number → is_ascii_digit (get_or rest 0 0) ≡ false → Read (gap ++ (digits ++ rest)) rest number
reads_number gap digits rest number g w e =
    let at : after_gap false (gap ++ (digits ++ rest)) ≡ digits ++ rest = skips gap (digits ++ rest) g.items ∙ stops digits rest w.each w.some in
    let long = digits_long digits rest w.each e in
    record {
      value = ap prefix_number at ∙ ap (λ n. number_of_digits (take n (digits ++ rest))) long ∙ ap number_of_digits (take_prefix digits rest) ∙ sym w.value;
      after = ap after_digits at ∙ ap (λ n. drop n (digits ++ rest)) long ∙ drop_prefix digits rest;
    }

-- a gap begins with a byte of a gap
pub gap_begins : (gap rest : List ℕ) → IsGap gap → is_in_gap false (get_or (gap ++ rest) 0 0) ≡ true
gap_begins gap rest g = begins gap g.items g.some
  where
    begins : (items : List ℕ) → AreItems items → 1 ≤ length items → is_in_gap false (get_or (items ++ rest) 0 0) ≡ true
    begins items no_item some = absurd (omega (arith, some))
    begins items (white_item b more w are) some = white_in_gap b w
    begins items (comment_item words end more h e are) some = refl

-- samples and colours
pub length-raster : (colours : List Colour) → length (raster colours) ≡ 3 * length colours
length-raster [] = refl
length-raster (c ∷ colours) = omega (arith, length-raster colours)

pub colours_back : (colours : List Colour) (after : List ℕ) → colours_at (length colours) (raster colours ++ after) ≡ colours
colours_back [] after = refl
colours_back (c ∷ colours) after = ap (λ cs. c ∷ cs) (colours_back colours after)

pub samples_back : (count : ℕ) (text : List ℕ) → 3 * count ≤ length text → raster (colours_at count text) ++ drop (3 * count) text ≡ text
samples_back zero text h = refl
samples_back (suc count) [] h = absurd (omega (arith, h))
samples_back (suc count) (a ∷ []) h = absurd (omega (arith, h))
samples_back (suc count) (a ∷ b ∷ []) h = absurd (omega (arith, h))
samples_back (suc count) (a ∷ b ∷ c ∷ text) h =
    let e : 3 * suc count ≡ 3 + 3 * count = omega arith in
    let prefix = raster (colours_at (suc count) (a ∷ b ∷ c ∷ text)) in
    ap (λ n. prefix ++ drop n (a ∷ b ∷ c ∷ text)) e ∙ ap (λ (t : List ℕ). prefix ++ t) (sym (drop-drop (3 * count) 3 (a ∷ b ∷ c ∷ text)))
    ∙ ap (λ (t : List ℕ). a ∷ b ∷ c ∷ t) (samples_back count text (omega (arith, h)))
