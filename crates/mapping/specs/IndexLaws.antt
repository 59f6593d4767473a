-- Changing and counting by index: for a list after another, from another index on, and for consecutive rows.
use Rattle.std.specs.Prelude.{◌≡◌, ◌<◌, ◌≤◌, ℕ, zero, suc, ◌+◌, ◌*◌, ◌/◌, ◌%◌, Bool, true, false, cond, List, [], ◌∷◌, ◌++◌, length}
use Rattle.std.proofs.Common.{refl, sym, ap, subst, ◌∙◌}
use Rattle.std.proofs.Math.Nat.{add_assoc, add-mul, add-suc, add-zero, le-add_right, le-suc, le_of_suc-le, le_refl, le_trans, lt-suc_self, lt_of_lt_of_le, mul-add-div_right, mul-add-mod_self_right, suc-add, suc-le-suc_iff, zero-add}
use Rattle.mapping.specs.declared.geometry.Colour.{Colour}
use Rattle.mapping.specs.Pixels.{count_indexes, count_pixels, map_indexed, repainted}

-- the length doesn't change
pub length-map_indexed : (f : ℕ → Colour → Colour) (k : ℕ) (cs : List Colour) → length (map_indexed f k cs) ≡ length cs
length-map_indexed f k [] = refl
length-map_indexed f k (c ∷ cs) = ap suc (length-map_indexed f (suc k) cs)

-- the next index, and the indexes after it
next : (k m : ℕ) → suc k + m ≡ k + suc m
next k m = suc-add k m ∙ sym (add-suc k m)

-- for one list, or range of indexes, after another
pub map_indexed-append : (f : ℕ → Colour → Colour) (k : ℕ) (xs ys : List Colour) → map_indexed f k (xs ++ ys) ≡ map_indexed f k xs ++ map_indexed f (k + length xs) ys
map_indexed-append f k [] ys = ap (λ (i : ℕ). map_indexed f i ys) (sym (add-zero k))
map_indexed-append f k (x ∷ xs) ys =
    ap (λ (cs : List Colour). f k x ∷ cs) (map_indexed-append f (suc k) xs ys ∙ ap (λ (i : ℕ). map_indexed f (suc k) xs ++ map_indexed f i ys) (next k (length xs)))

pub count_indexes-append : (p : ℕ → Bool) (k m n : ℕ) → count_indexes p k (m + n) ≡ count_indexes p k m + count_indexes p (k + m) n
count_indexes-append p k zero n =
    ap (λ (i : ℕ). count_indexes p k i) (zero-add n) ∙ ap (λ (i : ℕ). count_indexes p i n) (sym (add-zero k)) ∙ sym (zero-add (count_indexes p (k + zero) n))
count_indexes-append p k (suc m) n =
    let here = cond (p k) 1 0 in
    ap (λ (i : ℕ). count_indexes p k i) (suc-add m n)
    ∙ ap (λ (rest : ℕ). here + rest) (count_indexes-append p (suc k) m n ∙ ap (λ (i : ℕ). count_indexes p (suc k) m + count_indexes p i n) (next k m))
    ∙ sym (add_assoc here (count_indexes p (suc k) m) (count_indexes p (k + suc m) n))

-- from another index on, if the change or the test is the same at that distance
pub map_indexed_moved :
    (f g : ℕ → Colour → Colour) (m k : ℕ) (cs : List Colour) → ((i : ℕ) (c : Colour) → f (m + i) c ≡ g i c) → map_indexed f (m + k) cs ≡ map_indexed g k cs
map_indexed_moved f g m k [] same = refl
map_indexed_moved f g m k (c ∷ cs) same =
    ap (λ (d : Colour). d ∷ map_indexed f (suc (m + k)) cs) (same k c)
    ∙ ap (λ (rest : List Colour). g k c ∷ rest) (ap (λ (i : ℕ). map_indexed f i cs) (sym (add-suc m k)) ∙ map_indexed_moved f g m (suc k) cs same)

pub count_indexes_moved : (p q : ℕ → Bool) (m k n : ℕ) → ((i : ℕ) → p (m + i) ≡ q i) → count_indexes p (m + k) n ≡ count_indexes q k n
count_indexes_moved p q m k zero same = refl
count_indexes_moved p q m k (suc n) same =
    ap (λ (b : Bool). cond b 1 0 + count_indexes p (suc (m + k)) n) (same k)
    ∙ ap (λ (rest : ℕ). cond (q k) 1 0 + rest) (ap (λ (i : ℕ). count_indexes p i n) (sym (add-suc m k)) ∙ count_indexes_moved p q m (suc k) n same)

-- if every element is unchanged, so is the list; no index is counted if the test fails at each, and none is counted
-- twice
first_below : (k n : ℕ) → k < k + suc n
first_below k n = lt_of_lt_of_le (lt-suc_self k) (subst (λ (m : ℕ). suc k ≤ m) (next k n) (le-add_right (suc k) n))

later_below : (k n i : ℕ) → i < suc k + n → i < k + suc n
later_below k n i h = subst (λ (m : ℕ). i < m) (next k n) h

pub map_indexed_none :
    (f : ℕ → Colour → Colour) (k : ℕ) (cs : List Colour) → ((i : ℕ) (c : Colour) → k ≤ i → i < k + length cs → f i c ≡ c) → map_indexed f k cs ≡ cs
map_indexed_none f k [] stays = refl
map_indexed_none f k (c ∷ cs) stays =
    ap (λ (d : Colour). d ∷ map_indexed f (suc k) cs) (stays k c (le_refl k) (first_below k (length cs)))
    ∙ ap (λ (rest : List Colour). c ∷ rest) (map_indexed_none f (suc k) cs (λ i d low high. stays i d (le_of_suc-le low) (later_below k (length cs) i high)))

pub count_indexes_none : (p : ℕ → Bool) (k n : ℕ) → ((i : ℕ) → k ≤ i → i < k + n → p i ≡ false) → count_indexes p k n ≡ 0
count_indexes_none p k zero fails = refl
count_indexes_none p k (suc n) fails =
    ap (λ (b : Bool). cond b 1 0 + count_indexes p (suc k) n) (fails k (le_refl k) (first_below k n))
    ∙ zero-add (count_indexes p (suc k) n)
    ∙ count_indexes_none p (suc k) n (λ i low high. fails i (le_of_suc-le low) (later_below k n i high))

one_more : (b : Bool) (m n : ℕ) → m ≤ n → cond b 1 0 + m ≤ suc n
one_more true m n h = subst (λ (k : ℕ). k ≤ suc n) (sym (suc-add zero m ∙ ap suc (zero-add m))) (suc-le-suc_iff.1 h)
one_more false m n h = subst (λ (k : ℕ). k ≤ suc n) (sym (zero-add m)) (le_trans h (le-suc n))

pub count_indexes_most : (p : ℕ → Bool) (k n : ℕ) → count_indexes p k n ≤ n
count_indexes_most p k zero = le_refl zero
count_indexes_most p k (suc n) = one_more (p k) _ n (count_indexes_most p (suc k) n)

-- consecutive rows of this width: the pixel at an index after them
module _ (width first rows : ℕ) (wide : 1 ≤ width) where
  column : (i : ℕ) → (rows * width + i) % width ≡ i % width
  column i = mul-add-mod_self_right rows width i

  row : (i : ℕ) → first + (rows * width + i) / width ≡ (first + rows) + i / width
  row i = ap (λ (q : ℕ). first + q) (mul-add-div_right wide rows i) ∙ sym (add_assoc first rows (i / width))

  -- the index where they end
  after : {A : Type 0} (at : ℕ → A) → at (0 + rows * width) ≡ at (rows * width + 0)
  after at = ap at (zero-add (rows * width) ∙ sym (add-zero (rows * width)))

  pub count_pixels_laid :
      (test : ℕ → ℕ → Bool) (more : ℕ) → count_pixels test width first (rows + more) ≡ count_pixels test width first rows + count_pixels test width (first + rows) more
  count_pixels_laid test more =
      let p = λ (k : ℕ). test (k % width) (first + k / width) in
      let q = λ (k : ℕ). test (k % width) ((first + rows) + k / width) in
      ap (count_indexes p 0) (add-mul rows more width)
      ∙ count_indexes-append p 0 (rows * width) (more * width)
      ∙ ap (λ (n : ℕ). count_indexes p 0 (rows * width) + n)
      (after (λ (k : ℕ). count_indexes p k (more * width))
      ∙ count_indexes_moved p q (rows * width) 0 (more * width)
      (λ i. ap (λ (x : ℕ). test x (first + (rows * width + i) / width)) (column i) ∙ ap (λ (y : ℕ). test (i % width) y) (row i)))

  pub repainted_laid :
      (test : ℕ → ℕ → Bool) (f : ℕ → ℕ → Colour → Colour) (upper lower : List Colour) → length upper ≡ rows * width
      → repainted test f width first (upper ++ lower) ≡ repainted test f width first upper ++ repainted test f width (first + rows) lower
  repainted_laid test f upper lower long =
      let pixel = λ (x y : ℕ) (old : Colour). cond (test x y) (f x y old) old in
      let p = λ (k : ℕ). pixel (k % width) (first + k / width) in
      let q = λ (k : ℕ). pixel (k % width) ((first + rows) + k / width) in
      map_indexed-append p 0 upper lower
      ∙ ap (λ (rest : List Colour). map_indexed p 0 upper ++ rest)
      (ap (λ (n : ℕ). map_indexed p (0 + n) lower) long
      ∙ after (λ (k : ℕ). map_indexed p k lower)
      ∙ map_indexed_moved p q (rows * width) 0 lower
      (λ i old. ap (λ (x : ℕ). pixel x (first + (rows * width + i) / width) old) (column i) ∙ ap (λ (y : ℕ). pixel (i % width) y old) (row i)))
