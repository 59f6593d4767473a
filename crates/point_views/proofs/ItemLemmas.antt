-- Items of one size, one after another: how many there are, which one stands at an index, and a part of them. Points and
-- counts are both such items, at either width.
use Rattle.std.proofs.Common.{◌≡◌, ℕ, zero, suc, ◌+◌, ◌-◌, ◌*◌, ◌/◌, ◌<◌, ◌≤◌, List, [], ◌∷◌, length, take, drop, refl, sym, ap, ◌∙◌, arith, mul_comm, Some}
use Rattle.std.specs.List.{slice_get, slice_range}
use Rattle.std.proofs.lemmas.List.{drop-drop, drop-take, length-take-le}
use Rattle.std.proofs.Math.Nat.{mul-zero, mul-sub, mul-div_cancel}

-- the first n items of `size` bytes each: `item` says what its bytes are, the first of what is left
abbrev pub items_in : {A : Type 0} → (List ℕ → A) → ℕ → ℕ → List ℕ → List A
items_in item size zero bytes = []
items_in item size (suc n) bytes = item bytes ∷ items_in item size n (drop size bytes)

pub length-items_in : {A : Type 0} (item : List ℕ → A) (size n : ℕ) (bytes : List ℕ) → length (items_in item size n bytes) ≡ n
length-items_in item size zero bytes = refl
length-items_in item size (suc n) bytes = ap suc (length-items_in item size n (drop size bytes))

-- the items after the first are those in the bytes after it
pub drop_next : (size i : ℕ) (bytes : List ℕ) → drop (size * i) (drop size bytes) ≡ drop (size * suc i) bytes
drop_next size i bytes = drop-drop (size * i) size bytes ∙ ap (λ k. drop k bytes) (omega arith)

pub slice_get-items_in : {A : Type 0} (item : List ℕ → A) (size n i : ℕ) (bytes : List ℕ) → i < n → slice_get (items_in item size n bytes) i ≡ Some (item (drop (size * i) bytes))
slice_get-items_in item size zero i bytes inside = absurd (omega arith)
slice_get-items_in item size (suc n) zero bytes inside = rw (mul-zero size) refl
slice_get-items_in item size (suc n) (suc i) bytes inside =
    slice_get-items_in item size n i (drop size bytes) (omega arith) ∙ ap (λ rest. Some (item rest)) (drop_next size i bytes)

take-items_in : {A : Type 0} (item : List ℕ → A) (size k n : ℕ) (bytes : List ℕ) → k ≤ n → take k (items_in item size n bytes) ≡ items_in item size k bytes
take-items_in item size zero n bytes inside = refl
take-items_in item size (suc k) zero bytes inside = absurd (omega arith)
take-items_in item size (suc k) (suc n) bytes inside =
    ap (λ rest. item bytes ∷ rest) (take-items_in item size k n (drop size bytes) (omega arith))

pub drop-items_in : {A : Type 0} (item : List ℕ → A) (size k m n : ℕ) (bytes : List ℕ) → k + m ≡ n → drop k (items_in item size n bytes) ≡ items_in item size m (drop (size * k) bytes)
drop-items_in item size zero m n bytes whole = let same : n ≡ m = omega arith in rw (mul-zero size, same) refl
drop-items_in item size (suc k) m zero bytes whole = absurd (omega arith)
drop-items_in item size (suc k) m (suc n) bytes whole =
    drop-items_in item size k m n (drop size bytes) (omega arith) ∙ ap (items_in item size m) (drop_next size k bytes)

-- an item reads no byte after its own
pub record IsLocal {A : Type 0} (item : List ℕ → A) (size : ℕ) : Type 0 where
  pub reads : (m : ℕ) (bytes : List ℕ) → size ≤ m → item (take m bytes) ≡ item bytes

-- so n items read no byte after theirs
pub items_in-take : {A : Type 0} (item : List ℕ → A) (size n m : ℕ) (bytes : List ℕ) → IsLocal item size → size * n ≤ m → items_in item size n (take m bytes) ≡ items_in item size n bytes
items_in-take item size zero m bytes local inside = refl
items_in-take item size (suc n) m bytes local inside =
    let first : item (take m bytes) ≡ item bytes = local.reads m bytes (omega arith) in
    let moved : drop size (take m bytes) ≡ take (m - size) (drop size bytes) =
    ap (λ k. drop size (take k bytes)) (omega arith) ∙ drop-take size (m - size) bytes in
    let rest = items_in-take item size n (m - size) (drop size bytes) local (omega arith) in
    rw (first, moved, rest) refl

-- the items in a part of the bytes are a part of the items
pub items_in-slice_range : {A : Type 0} (item : List ℕ → A) (size n from to start end : ℕ) (bytes : List ℕ) → IsLocal item size → from ≤ to → to ≤ n → start ≡ size * from → end ≡ size * to → items_in item size (to - from) (slice_range bytes start end) ≡ slice_range (items_in item size n bytes) from to
items_in-slice_range item size n from to start end bytes local order within starts ends =
    let length : size * (to - from) ≡ end - start = rw (starts, ends, mul-sub size to from) refl in
    let cut = items_in-take item size (to - from) (end - start) (drop start bytes) local (omega (arith, length)) in
    let place : drop start bytes ≡ drop (size * from) bytes = ap (λ k. drop k bytes) starts in
    let dropped = drop-items_in item size from (n - from) n bytes (omega arith) in
    let taken = take-items_in item size (to - from) (n - from) (drop (size * from) bytes) (omega arith) in
    cut ∙ ap (items_in item size (to - from)) place ∙ sym (ap (take (to - from)) dropped ∙ taken)

-- as many items as the bytes that were taken for them hold
pub items_taken : (size n end : ℕ) (bytes : List ℕ) → 0 < size → end ≡ size * n → end ≤ length bytes → length (take end bytes) / size ≡ n
items_taken zero n end bytes some ends within = absurd (omega arith)
items_taken (suc k) n end bytes some ends within =
    let taken = length-take-le end bytes within in
    let whole : suc k * n ≡ n * suc k = mul_comm (suc k) n in
    rw (taken, ends, whole) (mul-div_cancel n (omega arith))
