-- Lists of counts added one count after another, as a loop does it.
use Rattle.std.proofs.Common.{◌≡◌, ℕ, zero, suc, ◌+◌, ◌<◌, min, List, [], ◌∷◌, length, replicate, refl, ap, arith, add-one}
use Rattle.std.proofs.Math.ListN.{get_or, set}
use Rattle.draw_ops.specs.NoteCounts.{note_limit, added_notes}

-- the first counts added, and the others as they were
abbrev pub added_prefix : ℕ → List ℕ → List ℕ → List ℕ
added_prefix zero counts more = counts
added_prefix (suc i) [] more = []
added_prefix (suc i) (count ∷ counts) [] = count ∷ counts
added_prefix (suc i) (count ∷ counts) (m ∷ more) = min (count + m) note_limit ∷ added_prefix i counts more

get_or-added_prefix : (i : ℕ) (counts more : List ℕ) → get_or (added_prefix i counts more) i 0 ≡ get_or counts i 0
get_or-added_prefix zero counts more = refl
get_or-added_prefix (suc i) [] more = refl
get_or-added_prefix (suc i) (count ∷ counts) [] = refl
get_or-added_prefix (suc i) (count ∷ counts) (m ∷ more) = get_or-added_prefix i counts more

set-added_prefix : (i : ℕ) (counts more : List ℕ) → i < length counts → length counts ≡ length more → set (added_prefix i counts more) i (min (get_or counts i 0 + get_or more i 0) note_limit) ≡ added_prefix (suc i) counts more
set-added_prefix i [] more inside same = absurd (omega arith)
set-added_prefix i (count ∷ counts) [] inside same = absurd (omega arith)
set-added_prefix zero (count ∷ counts) (m ∷ more) inside same = refl
set-added_prefix (suc i) (count ∷ counts) (m ∷ more) inside same =
    ap (λ rest. min (count + m) note_limit ∷ rest) (set-added_prefix i counts more (omega arith) (omega arith))

-- when all are added
pub added_prefix-all : (i : ℕ) (counts more : List ℕ) → i ≡ length counts → length counts ≡ length more → added_prefix i counts more ≡ added_notes counts more
added_prefix-all zero [] more ends same = refl
added_prefix-all (suc i) [] more ends same = absurd (omega arith)
added_prefix-all i (count ∷ counts) [] ends same = absurd (omega arith)
added_prefix-all zero (count ∷ counts) (m ∷ more) ends same = absurd (omega arith)
added_prefix-all (suc i) (count ∷ counts) (m ∷ more) ends same = ap (λ rest. min (count + m) note_limit ∷ rest) (added_prefix-all i counts more (omega arith) (omega arith))

-- one more is added
pub next_added : (i : ℕ) (counts more now : List ℕ) → i < length counts → length counts ≡ length more → now ≡ added_prefix i counts more → set now i (min (get_or now i 0 + get_or more i 0) note_limit) ≡ added_prefix (i + 1) counts more
next_added i counts more now inside same is = rw (is, get_or-added_prefix i counts more, add-one) (set-added_prefix i counts more inside same)

-- zeros change no count
pub added_zeros : (n : ℕ) (counts : List ℕ) → length counts ≡ n → ((i : ℕ) → get_or counts i 0 < 4294967296) → added_notes counts (replicate n 0) ≡ counts
added_zeros zero [] all few = refl
added_zeros zero (count ∷ counts) all few = absurd (omega arith)
added_zeros (suc n) [] all few = absurd (omega arith)
added_zeros (suc n) (count ∷ counts) all few =
    let same : min (count + 0) note_limit ≡ count = omega (arith, few 0) in
    rw (same, added_zeros n counts (omega arith) (λ i. few (suc i))) refl

-- what the tactics take to a sum of notes
pub ruleset sums = (added_prefix-all, next_added)
