-- A number's bytes, and the number of bytes.
use Rattle.std.proofs.Common.{◌≡◌, ℕ, ◌+◌, ◌*◌, ◌<◌, ◌≤◌, ◌^◌, ℤ, FitsSigned, List, [], ◌∷◌, ◌++◌, length, drop, arith, refl, ap, sym, ◌∙◌, w16, w32, w64}
use Rattle.std.specs.Int.{cast_signed, cast_unsigned, to_le_bytes}
use Rattle.std.proofs.lemmas.Int.{ints, of_z-to_z}
use Rattle.std.proofs.lemmas.List.{drop-drop, get_or-drop, length-drop}
use Rattle.std.proofs.lemmas.List.Elements.{All-drop}
use Rattle.point_views.specs.Numbers.{i32_at, number_at}
use Rattle.preflight_cert.specs.CertificateText.{number_text}
use Rattle.preflight_cert.specs.TextLaws.{AreBytes}

pub number_back : (n : ℕ) (rest : List ℕ) → n < 2 ^ 32 → number_at (number_text n ++ rest) 0 4 ≡ n
number_back n rest h = omega arith

unsigned_small : (v : ℤ) → FitsSigned w32 v → cast_unsigned w32 v < 2 ^ 32
unsigned_small v h = omega (arith, ints)

signed_again : (v : ℤ) → FitsSigned w32 v → cast_signed w32 (cast_unsigned w32 v) ≡ v
signed_again v h = omega (arith, ints)

pub signed_fits : (n : ℕ) → n < 2 ^ 32 → FitsSigned w32 (cast_signed w32 n)
signed_fits n h = omega (arith, ints)

pub signed_back : (v : ℤ) (rest : List ℕ) → FitsSigned w32 v → i32_at (number_text (cast_unsigned w32 v) ++ rest) 0 ≡ v
signed_back v rest h = ap (cast_signed w32) (number_back (cast_unsigned w32 v) rest (unsigned_small v h)) ∙ signed_again v h

-- the same of numbers of two bytes
pub short_back : (n : ℕ) (rest : List ℕ) → n < 2 ^ 16 → number_at (to_le_bytes w16 n ++ rest) 0 2 ≡ n
short_back n rest h = omega arith

same_four : {a b c d x y z w : ℕ} {xs ys : List ℕ} → a ≡ x → b ≡ y → c ≡ z → d ≡ w → xs ≡ ys → (a ∷ b ∷ c ∷ d ∷ xs) ≡ (x ∷ y ∷ z ∷ w ∷ ys)
same_four e f g h i = cc

-- bytes of the number of four bytes
digits_of_four : (a b c d : ℕ) (xs : List ℕ) → a < 256 → b < 256 → c < 256 → d < 256
    → number_text (a + 256 * (b + 256 * (c + 256 * (d + 256 * 0)))) ++ xs ≡ a ∷ b ∷ c ∷ d ∷ xs
digits_of_four a b c d xs p q r s = same_four (omega (arith, p, q, r, s)) (omega (arith, p, q, r, s)) (omega (arith, p, q, r, s)) (omega (arith, p, q, r, s)) refl

four_again : (xs rest : List ℕ) → 4 ≤ length xs → AreBytes xs → rest ≡ drop 4 xs → number_text (number_at xs 0 4) ++ rest ≡ xs
four_again [] rest some bytes e = absurd (omega (arith, some))
four_again (a ∷ []) rest some bytes e = absurd (omega (arith, some))
four_again (a ∷ b ∷ []) rest some bytes e = absurd (omega (arith, some))
four_again (a ∷ b ∷ c ∷ []) rest some bytes e = absurd (omega (arith, some))
four_again (a ∷ b ∷ c ∷ d ∷ xs) rest some bytes e =
    let p : a < 256 = bytes 0 0 (omega arith) in
    let q : b < 256 = bytes 1 0 (omega arith) in
    let r : c < 256 = bytes 2 0 (omega arith) in
    let s : d < 256 = bytes 3 0 (omega arith) in
    ap (λ (ys : List ℕ). number_text (number_at (a ∷ b ∷ c ∷ d ∷ xs) 0 4) ++ ys) e ∙ digits_of_four a b c d xs p q r s

four_small : (xs : List ℕ) → 4 ≤ length xs → AreBytes xs → number_at xs 0 4 < 2 ^ 32
four_small [] some bytes = absurd (omega (arith, some))
four_small (a ∷ []) some bytes = absurd (omega (arith, some))
four_small (a ∷ b ∷ []) some bytes = absurd (omega (arith, some))
four_small (a ∷ b ∷ c ∷ []) some bytes = absurd (omega (arith, some))
four_small (a ∷ b ∷ c ∷ d ∷ xs) some bytes =
    let p : a < 256 = bytes 0 0 (omega arith) in
    let q : b < 256 = bytes 1 0 (omega arith) in
    let r : c < 256 = bytes 2 0 (omega arith) in
    let s : d < 256 = bytes 3 0 (omega arith) in omega (arith, p, q, r, s)

module _ (place : ℕ) (bytes : List ℕ) (all : AreBytes bytes) where
  pub number_small : place + 4 ≤ length bytes → number_at bytes place 4 < 2 ^ 32
  number_small within =
      let len = length-drop place bytes in four_small (drop place bytes) (omega (arith, len, within)) (All-drop (λ byte. byte < 2 ^ 8) place bytes all)

  pub number_again : (rest : List ℕ) → place + 4 ≤ length bytes → rest ≡ drop (place + 4) bytes → number_text (number_at bytes place 4) ++ rest ≡ drop place bytes
  number_again rest within e =
      let len = length-drop place bytes in
      four_again (drop place bytes) rest (omega (arith, len, within)) (All-drop (λ byte. byte < 2 ^ 8) place bytes all) (e ∙ sym (drop-drop 4 place bytes))

  pub signed_number_again : (rest : List ℕ) → place + 4 ≤ length bytes → rest ≡ drop (place + 4) bytes → number_text (cast_unsigned w32 (i32_at bytes place)) ++ rest ≡ drop place bytes
  signed_number_again rest within e =
      ap (λ (n : ℕ). number_text n ++ rest) (of_z-to_z w32 (number_at bytes place 4) (number_small within)) ∙ number_again rest within e

-- a number of two bytes
same_two : {a b x y : ℕ} {xs ys : List ℕ} → a ≡ x → b ≡ y → xs ≡ ys → (a ∷ b ∷ xs) ≡ (x ∷ y ∷ ys)
same_two e f g = cc

digits_of_two : (a b : ℕ) (xs : List ℕ) → a < 256 → b < 256 → to_le_bytes w16 (a + 256 * (b + 256 * 0)) ++ xs ≡ a ∷ b ∷ xs
digits_of_two a b xs p q = same_two (omega (arith, p, q)) (omega (arith, p, q)) refl

two_again : (xs rest : List ℕ) → 2 ≤ length xs → AreBytes xs → rest ≡ drop 2 xs → to_le_bytes w16 (number_at xs 0 2) ++ rest ≡ xs
two_again [] rest some bytes e = absurd (omega (arith, some))
two_again (a ∷ []) rest some bytes e = absurd (omega (arith, some))
two_again (a ∷ b ∷ xs) rest some bytes e =
    let p : a < 256 = bytes 0 0 (omega arith) in
    let q : b < 256 = bytes 1 0 (omega arith) in
    ap (λ (ys : List ℕ). to_le_bytes w16 (number_at (a ∷ b ∷ xs) 0 2) ++ ys) e ∙ digits_of_two a b xs p q

pub short_again :
    (place : ℕ) (bytes rest : List ℕ) → AreBytes bytes → place + 2 ≤ length bytes → rest ≡ drop (place + 2) bytes
    → to_le_bytes w16 (number_at bytes place 2) ++ rest ≡ drop place bytes
short_again place bytes rest all within e =
    let len = length-drop place bytes in
    two_again (drop place bytes) rest (omega (arith, len, within)) (All-drop (λ byte. byte < 2 ^ 8) place bytes all) (e ∙ sym (drop-drop 2 place bytes))

-- the number of eight bytes is that of two halves
halves : (place : ℕ) (bytes : List ℕ) → number_at bytes place 8 ≡ number_at bytes place 4 + 4294967296 * number_at bytes (place + 4) 4
halves place bytes =
    let xs = drop place bytes in
    rw (sym (drop-drop 4 place bytes)) (omega (arith, get_or-drop 4 xs 0 0, get_or-drop 4 xs 1 0, get_or-drop 4 xs 2 0, get_or-drop 4 xs 3 0))

same_eight : {a b c d e f g h i j k l m n o p : ℕ} → a ≡ i → b ≡ j → c ≡ k → d ≡ l → e ≡ m → f ≡ n → g ≡ o → h ≡ p
    → (a ∷ b ∷ c ∷ d ∷ e ∷ f ∷ g ∷ h ∷ []) ≡ (i ∷ j ∷ k ∷ l ∷ m ∷ n ∷ o ∷ p ∷ [])
same_eight q r s t u v w x = cc

long_text : (n low high : ℕ) → low < 2 ^ 32 → high < 2 ^ 32 → n ≡ low + 4294967296 * high → to_le_bytes w64 n ≡ number_text low ++ number_text high
long_text n low high p q e =
    same_eight
    (omega (arith, p, q, e)) (omega (arith, p, q, e)) (omega (arith, p, q, e)) (omega (arith, p, q, e))
    (omega (arith, p, q, e)) (omega (arith, p, q, e)) (omega (arith, p, q, e)) (omega (arith, p, q, e))

module _ (place : ℕ) (bytes : List ℕ) (all : AreBytes bytes) (within : place + 8 ≤ length bytes) where
  low_small : number_at bytes place 4 < 2 ^ 32
  low_small = number_small place bytes all (omega (arith, within))

  high_small : number_at bytes (place + 4) 4 < 2 ^ 32
  high_small = number_small (place + 4) bytes all (omega (arith, within))

  pub long_small : number_at bytes place 8 < 2 ^ 64
  long_small = let low = low_small in let high = high_small in let e = halves place bytes in omega (arith, low, high, e)

  pub long_again : (rest : List ℕ) → rest ≡ drop (place + 8) bytes → to_le_bytes w64 (number_at bytes place 8) ++ rest ≡ drop place bytes
  long_again rest e =
      let further : place + 8 ≡ place + 4 + 4 = omega arith in
      ap (λ (text : List ℕ). text ++ rest) (long_text _ _ _ low_small high_small (halves place bytes))
      ∙ number_again place bytes all (number_text (number_at bytes (place + 4) 4) ++ rest) (omega (arith, within))
      (number_again (place + 4) bytes all rest (omega (arith, within)) (e ∙ ap (λ (k : ℕ). drop k bytes) further))
