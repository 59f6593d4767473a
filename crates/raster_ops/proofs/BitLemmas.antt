-- Bytes bit by bit.
use Rattle.std.proofs.Common.{◌≡◌, ℕ, zero, suc, ◌+◌, ◌*◌, ◌/◌, ◌%◌, ◌^◌, ◌<◌, List, [], ◌∷◌, map, sum, min, refl, ◌∙◌, arith}
use Rattle.std.specs.Int.{bit_at}
use Rattle.std.proofs.lemmas.Nat.{shr-shr}

-- the places of a byte's bits
abbrev pub places : List ℕ
places = 0 ∷ 1 ∷ 2 ∷ 3 ∷ 4 ∷ 5 ∷ 6 ∷ 7 ∷ []

-- a byte is the sum of its bits, each at its place
half : (r k : ℕ) → r / 2 ^ k / 2 ≡ r / 2 ^ (k + 1)
half r k = shr-shr r k 1

pub spread : (r : ℕ) → r < 256 → r ≡ sum (map (λ k. bit_at r k * 2 ^ k) places)
spread r h = omega (arith, half r 0, half r 1, half r 2, half r 3, half r 4, half r 5, half r 6, half r 7)

pub same_sum : (f g : ℕ → ℕ) → ((k : ℕ) → k < 8 → f k ≡ g k) → sum (map f places) ≡ sum (map g places)
same_sum f g h = rw (h 0 (omega arith), h 1 (omega arith), h 2 (omega arith), h 3 (omega arith), h 4 (omega arith), h 5 (omega arith), h 6 (omega arith), h 7 (omega arith)) refl

-- two bits have four values
pub four : (P : ℕ → ℕ → Type 0) → P 0 0 → P 0 1 → P 1 0 → P 1 1 → (a b : ℕ) → a < 2 → b < 2 → P a b
four P p q r s zero zero h k = p
four P p q r s zero (suc zero) h k = q
four P p q r s zero (suc (suc b)) h k = absurd (omega arith)
four P p q r s (suc zero) zero h k = r
four P p q r s (suc zero) (suc zero) h k = s
four P p q r s (suc zero) (suc (suc b)) h k = absurd (omega arith)
four P p q r s (suc (suc a)) b h k = absurd (omega arith)

-- what is made of a bit that is 0 and of one that is 1, put together
pub kept_and_flipped : (t : ℕ → ℕ) (low high o : ℕ) → low < 2 → high < 2 → o < 2 → low ≡ t 0 → high ≡ t 1 → (min ((high + low) % 2) o + low) % 2 ≡ t o
kept_and_flipped t low high zero h k l e f =
    four (λ a b. (min ((b + a) % 2) 0 + a) % 2 ≡ a) refl refl refl refl low high h k ∙ e
kept_and_flipped t low high (suc zero) h k l e f =
    four (λ a b. (min ((b + a) % 2) 1 + a) % 2 ≡ b) refl refl refl refl low high h k ∙ f
kept_and_flipped t low high (suc (suc o)) h k l e f = absurd (omega arith)
