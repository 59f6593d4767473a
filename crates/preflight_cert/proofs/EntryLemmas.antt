-- Entries in bytes: how many, the first of them, and the one at an index.
use Rattle.std.proofs.Common.{◌≡◌, ℕ, zero, suc, ◌+◌, ◌-◌, ◌*◌, ◌/◌, ◌%◌, ◌<◌, ◌≤◌, Bool, true, false, List, [], ◌∷◌, length, take, drop, Some, Ok, Err, ap, sym, ◌∙◌, arith, refl}
use Rattle.std.specs.List.{slice_get}
use Rattle.std.specs.Prelude.{nat_lt, if◌then◌else◌}
use Rattle.std.proofs.Math.Nat.{div-eq-sub-div, div-eq_of_lt, le-div_iff_mul-le, mod-eq-sub-mod, mul-div_cancel_left, mul-mod_right, mul-suc, mul_comm}
use Rattle.std.proofs.lemmas.Bool.{le-ltb}
use Rattle.std.proofs.lemmas.List.{drop-drop, length-drop, take_all}
use Rattle.draw_ops.specs.declared.fault.Fault.TheVariants.{BadBound}
use Rattle.point_views.specs.Numbers.{number_at}
use Rattle.preflight_cert.specs.CertificateReading.{CertificateValue, count_in, entries_in, entry_size, first_entry, have_nibs, needs_in, read_whole, value_in, whole_size, with_nibs}
use Rattle.preflight_cert.specs.declared.certificate_entry.Entry.{Entry}
use Rattle.preflight_cert.specs.declared.version.Version.{Version}
use Rattle.preflight_cert.specs.declared.version.Version.TheVariants.{Mpc1, Mpc2}

-- an entry has a number and a box at least, and is short
pub entry_least : (version : Version) → 20 ≤ entry_size version
entry_least Mpc1 = omega arith
entry_least Mpc2 = omega arith

pub entry_short : (version : Version) → entry_size version < 65536
entry_short Mpc1 = omega arith
entry_short Mpc2 = omega arith

some : (version : Version) → zero < entry_size version
some version = let least = entry_least version in omega (arith, least)

pub length-entries_in : (version : Version) (n : ℕ) (bytes : List ℕ) → length (entries_in version n bytes) ≡ n
length-entries_in version zero bytes = refl
length-entries_in version (suc n) bytes = ap (λ (k : ℕ). suc k) (length-entries_in version n (drop (entry_size version) bytes))

-- a part of a slice up to its end
whole_rest : (n : ℕ) (bytes : List ℕ) → take (length bytes - n) (drop n bytes) ≡ drop n bytes
whole_rest n bytes = take_all (length bytes - n) (drop n bytes) (simp length-drop (omega arith))

pub length_rest : (n : ℕ) (bytes : List ℕ) → length (take (length bytes - n) (drop n bytes)) ≡ length bytes - n
length_rest n bytes = rw (whole_rest n bytes) (length-drop n bytes)

-- a view of entries of a version
module _ (version : Version) where
  abbrev size : ℕ
  size = entry_size version

  -- the entries of a view with these bytes
  abbrev all_in : List ℕ → List Entry
  all_in bytes = entries_in version (length bytes / size) bytes

  -- the first entry, and the others behind it
  pub first_of_entries :
      (bytes : List ℕ) → size ≤ length bytes
      → all_in bytes ≡ first_entry version bytes ∷ all_in (take (length bytes - size) (drop size bytes))
  first_of_entries bytes enough =
      let one_more : length bytes / size ≡ suc ((length bytes - size) / size) = div-eq-sub-div (some version) enough ∙ omega arith in
      let e : length bytes / size ≡ suc (length (drop size bytes) / size) = rw (length-drop size bytes) one_more in
      rw (whole_rest size bytes, e) refl

  pub no_entries : (bytes : List ℕ) → length bytes < size → all_in bytes ≡ []
  no_entries bytes few = rw (div-eq_of_lt few) refl

  -- the same, where an entry's size is known by a number
  pub first_at : (n : ℕ) (bytes : List ℕ) → n ≡ size → n ≤ length bytes
      → all_in bytes ≡ first_entry version bytes ∷ all_in (take (length bytes - n) (drop n bytes))
  first_at n bytes e = rw e (first_of_entries bytes)

  -- what is behind the first is whole entries again
  pub rest_whole : (n : ℕ) (bytes : List ℕ) → n ≡ size → n ≤ length bytes → length bytes % size ≡ 0
      → length (take (length bytes - n) (drop n bytes)) % size ≡ 0
  rest_whole n bytes e =
      rw e (λ (enough : size ≤ length bytes) (whole : length bytes % size ≡ 0).
      rw (whole_rest size bytes, length-drop size bytes) (sym (mod-eq-sub-mod enough) ∙ whole))

  -- an index of an entry
  inside : (i : ℕ) (bytes : List ℕ) → i < length (all_in bytes) → i < length bytes / size
  inside i bytes h = simp length-entries_in at h

  -- an entry of the view stands within its bytes
  stands : (i : ℕ) (bytes : List ℕ) → i < length (all_in bytes) → size * i + size ≤ length bytes
  stands i bytes h =
      let number = inside i bytes h in
      let product : suc i * size ≤ length bytes = (le-div_iff_mul-le (some version)).0 (omega (arith, number)) in
      let e : suc i * size ≡ size * i + size = mul_comm (suc i) size ∙ (mul-suc size i) in
      omega (arith, product, e)

  pub within : (n i : ℕ) (bytes : List ℕ) → n ≡ size → i < length (all_in bytes) → n * i + size ≤ length bytes
  within n i bytes e = rw e (stands i bytes)

  -- the entry at an index
  entry_at : (n i : ℕ) (bytes : List ℕ) → i < n → slice_get (entries_in version n bytes) i ≡ Some (first_entry version (drop (size * i) bytes))
  entry_at zero i bytes inside = absurd (omega (arith, inside))
  entry_at (suc n) zero bytes inside = let e : size * zero ≡ zero = omega arith in rw e refl
  entry_at (suc n) (suc i) bytes inside =
      let place : size * suc i ≡ size + size * i = mul-suc size i ∙ omega arith in
      entry_at n i (drop size bytes) (omega (arith, inside))
      ∙ ap (λ (bs : List ℕ). Some (first_entry version bs)) (drop-drop (size * i) size bytes ∙ ap (λ (k : ℕ). drop k bytes) (sym place))

  pub entry_in : (n i : ℕ) (bytes : List ℕ) → n ≡ size → i < length (all_in bytes)
      → slice_get (all_in bytes) i ≡ Some (first_entry version (take (length bytes - n * i) (drop (n * i) bytes)))
  entry_in n i bytes e h = rw (whole_rest (n * i) bytes, e) (entry_at (length bytes / size) i bytes (inside i bytes h))

-- entries that tell no nib have that of one pixel
pub plain_nibs : (n : ℕ) (bytes : List ℕ) → have_nibs (entries_in Mpc1 n bytes) ≡ true
plain_nibs zero bytes = refl
plain_nibs (suc n) bytes = plain_nibs n (drop 20 bytes)

-- what the tactics take to a view's length and its first entry
pub ruleset entries = (length-entries_in, no_entries, first_of_entries)

-- a certificate that ends where its entries do
module _ (version : Version) (bytes : List ℕ) (whole : length bytes ≡ whole_size version bytes) where
  pub ends_with_entries : read_whole version bytes ≡ with_nibs (value_in version bytes)
  ends_with_entries =
      let a : nat_lt (length bytes) (whole_size version bytes) ≡ false = le-ltb (length bytes) (whole_size version bytes) (omega (arith, whole)) in
      let b : nat_lt (whole_size version bytes) (length bytes) ≡ false = le-ltb (whole_size version bytes) (length bytes) (omega (arith, whole)) in rw (a, b) refl

  after_head : length (drop 40 bytes) ≡ entry_size version * count_in bytes
  after_head = let e = length-drop 40 bytes in omega (arith, e, whole)

  -- it holds whole entries
  pub entries_whole : length (take (length bytes - 40) (drop 40 bytes)) % entry_size version ≡ 0
  entries_whole = rw (whole_rest 40 bytes, after_head) (mul-mod_right (entry_size version) (count_in bytes))

  -- and so many as it says
  entries_counted : length (drop 40 bytes) / entry_size version ≡ count_in bytes
  entries_counted = rw after_head (mul-div_cancel_left (count_in bytes) (some version))

  -- the same, with the entries by the view that is made of them
  abbrev after_view : List ℕ
  after_view = take (length bytes - 40) (drop 40 bytes)

  abbrev by_view : CertificateValue
  by_view = record {
    version = version;
    max_width = number_at bytes 4 4;
    max_height = number_at bytes 8 4;
    writes = number_at bytes 12 8;
    needs = needs_in bytes;
    entries = all_in version after_view;
  }

  is_by_view : read_whole version bytes ≡ with_nibs by_view
  is_by_view = rw (whole_rest 40 bytes, entries_counted) ends_with_entries

  -- it is read where its nibs are within their limits, and refused else
  pub is_read_whole : have_nibs (all_in version after_view) ≡ true → read_whole version bytes ≡ Ok by_view
  is_read_whole e = is_by_view ∙ ap (λ (passed : Bool). if passed then Ok by_view else Err BadBound) e

  pub is_rejected : have_nibs (all_in version after_view) ≡ false → read_whole version bytes ≡ Err BadBound
  is_rejected e = is_by_view ∙ ap (λ (passed : Bool). if passed then Ok by_view else Err BadBound) e
