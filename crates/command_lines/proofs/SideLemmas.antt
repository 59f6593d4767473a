-- The text of a width or height is a plain word, and clap accepts it.
use Rattle.std.proofs.Common.{◌≡◌, ◌∙◌, ◌<◌, ◌==◌, ◌^◌, ap, refl, ℕ, [], ◌∷◌, false, true, length, pos, arith, nat_le, nat_lt}
use Rattle.std.proofs.lemmas.Bool.{ne_eqb, and_from}
use Rattle.std.proofs.lemmas.Bool.Decides.{nat_tests}
use Rattle.std.specs.Char.{digit_value}
use Rattle.std.specs.List.{list_all}
use Rattle.std.specs.Str.Parse.{AllDigits, IsNumeral, digits_value, without_leading_plus}
use Rattle.mapping.specs.Limits.{surface_side_limit}
use Rattle.clap.specs.Lexer.{without_minus}
use Rattle.clap.specs.ValueTests.{is_numeral, is_signed_in}
use Rattle.clap.specs.Walk.{Text}
use Rattle.command_lines.specs.CommandLine.{IsPlainWord, IsSideText}

-- a digit isn't a sign
no_sign : (c sign : ℕ) → digit_value c < 10 → digit_value sign ≡ 36 → c ≡ sign → ⊥
no_sign c sign digit is same =
    let big : digit_value c ≡ 36 = ap digit_value same ∙ is in
    absurd (omega arith)

pub plain_side : (text : Text) → IsSideText text → IsPlainWord text
plain_side [] side = tt
plain_side (c ∷ cs) side = no_sign c 45 side.numeral.1.0 refl

all_digits : (ds : Text) → AllDigits 10 ds → list_all (λ d. nat_lt (digit_value d) 10) ds ≡ true
all_digits [] digits = refl
all_digits (d ∷ ds) digits =
    let first : nat_lt (digit_value d) 10 ≡ true = grind (arith, nat_tests) in
    rw first (all_digits ds digits.1)

numeral : (c : ℕ) (cs : Text) → AllDigits 10 (c ∷ cs) → is_numeral (c ∷ cs) ≡ true
numeral c cs digits =
    let some : nat_lt 0 (length (c ∷ cs)) ≡ true = grind (arith, nat_tests) in
    and_from _ _ some (all_digits (c ∷ cs) digits)

-- such a text has no plus sign to remove
pub no_plus : (text : Text) → IsSideText text → without_leading_plus text ≡ text
no_plus [] side = absurd (omega arith)
no_plus (c ∷ cs) side = rw (ne_eqb c 43 (no_sign c 43 side.numeral.1.0 refl)) refl

-- its number fits the type of widths and heights
pub fits_unsigned : (text : Text) → IsSideText text → IsNumeral 10 (without_leading_plus text) × (digits_value 10 (without_leading_plus text) < 2 ^ 32)
fits_unsigned text side =
    let small : digits_value 10 text < 2 ^ 32 = omega arith in
    rw (no_plus text side) (side.numeral, small)

pub side_passes : (text : Text) → IsSideText text → is_signed_in (pos 1) (pos surface_side_limit) text ≡ true
side_passes [] side = absurd (omega arith)
side_passes (c ∷ cs) side =
    let no_minus_there : (c == 45) ≡ false = ne_eqb c 45 (no_sign c 45 side.numeral.1.0 refl) in
    let no_plus_there : (c == 43) ≡ false = ne_eqb c 43 (no_sign c 43 side.numeral.1.0 refl) in
    let digits = numeral c cs side.numeral.1 in
    let small : nat_lt (digits_value 10 (c ∷ cs)) (2 ^ 63) ≡ true = grind (arith, nat_tests) in
    let low : nat_le 1 (digits_value 10 (c ∷ cs)) ≡ true = grind (arith, nat_tests) in
    let high : nat_le (digits_value 10 (c ∷ cs)) 8192 ≡ true = grind (arith, nat_tests) in
    rw (no_minus_there, no_plus_there) (rw digits (rw small (rw low (rw high refl))))

-- a plain word has no hyphen to remove
pub no_minus : (word : Text) → IsPlainWord word → without_minus word ≡ word
no_minus [] plain = refl
no_minus (byte ∷ rest) plain = rw (ne_eqb byte 45 plain) refl
