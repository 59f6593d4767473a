-- Lists that are changed, and tests that are counted, index by index.
use Rattle.std.proofs.Common.{◌≡◌, ℕ, zero, suc, ◌+◌, ◌<◌, ◌≤◌, Bool, true, false, ◌&&◌, ◌||◌, cond, List, [], ◌∷◌, length, get_or, refl, ap, ◌∙◌, arith}
use Rattle.std.proofs.lemmas.Bool.{true≢false}
use Rattle.mapping.specs.declared.geometry.Colour.{Colour}
use Rattle.mapping.specs.Pixels.{map_indexed, count_indexes}

pub get_or-map_indexed : (f : ℕ → Colour → Colour) (k : ℕ) (cs : List Colour) (i : ℕ) (d : Colour) → i < length cs → get_or (map_indexed f k cs) i d ≡ f (k + i) (get_or cs i d)
get_or-map_indexed f k [] i d h = absurd (omega arith)
get_or-map_indexed f k (c ∷ cs) zero d h = let e : k ≡ k + zero = omega arith in ap (λ (n : ℕ). f n c) e
get_or-map_indexed f k (c ∷ cs) (suc i) d h =
    let e : suc k + i ≡ k + suc i = omega arith in
    get_or-map_indexed f (suc k) cs i d (omega arith) ∙ ap (λ (n : ℕ). f n (get_or cs i d)) e

-- functions that agree within the list make the same of it
pub map_indexed_same : (f g : ℕ → Colour → Colour) (k : ℕ) (cs : List Colour) → ((i : ℕ) (c : Colour) → k ≤ i → i < k + length cs → f i c ≡ g i c) → map_indexed f k cs ≡ map_indexed g k cs
map_indexed_same f g k [] h = refl
map_indexed_same f g k (c ∷ cs) h =
    let here : f k c ≡ g k c = h k c (omega arith) (omega arith) in
    rw (here, map_indexed_same f g (suc k) cs (λ i x a b. h i x (omega arith) (omega arith))) refl

-- one function after another
pub map_indexed_both : (f g : ℕ → Colour → Colour) (k : ℕ) (cs : List Colour) → map_indexed g k (map_indexed f k cs) ≡ map_indexed (λ i c. g i (f i c)) k cs
map_indexed_both f g k [] = refl
map_indexed_both f g k (c ∷ cs) = ap (λ (rest : List Colour). g k (f k c) ∷ rest) (map_indexed_both f g (suc k) cs)

-- tests that agree have the same count
pub count_same : (p q : ℕ → Bool) (k n : ℕ) → ((i : ℕ) → k ≤ i → i < k + n → p i ≡ q i) → count_indexes p k n ≡ count_indexes q k n
count_same p q k zero h = refl
count_same p q k (suc n) h =
    let here : p k ≡ q k = h k (omega arith) (omega arith) in
    rw (here, count_same p q (suc k) n (λ i a b. h i (omega arith) (omega arith))) refl

pub count_all : (p : ℕ → Bool) (k n : ℕ) → ((i : ℕ) → k ≤ i → i < k + n → p i ≡ true) → count_indexes p k n ≡ n
count_all p k zero h = refl
count_all p k (suc n) h =
    let here : p k ≡ true = h k (omega arith) (omega arith) in
    rw (here, count_all p (suc k) n (λ i a b. h i (omega arith) (omega arith))) (omega arith)

-- two tests that no index passes both of
either : (a b : Bool) → (a && b) ≡ false → cond (a || b) 1 0 ≡ cond a 1 0 + cond b 1 0
either true true h = absurd (true≢false h)
either true false h = refl
either false true h = refl
either false false h = refl

pub count_either : (p q : ℕ → Bool) (k n : ℕ) → ((i : ℕ) → k ≤ i → i < k + n → (p i && q i) ≡ false) → count_indexes (λ i. p i || q i) k n ≡ count_indexes p k n + count_indexes q k n
count_either p q k zero h = refl
count_either p q k (suc n) h =
    let here = either (p k) (q k) (h k (omega arith) (omega arith)) in
    let rest = count_either p q (suc k) n (λ i a b. h i (omega arith) (omega arith)) in
    omega (arith, here, rest)
