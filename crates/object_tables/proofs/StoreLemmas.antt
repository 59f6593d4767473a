-- The objects of a list of places, by their indexes.
use Rattle.std.proofs.Common.{◌≡◌, ℕ, zero, suc, ◌+◌, ◌<◌, ◌≤◌, List, [], ◌∷◌, ◌++◌, length, replicate, slice_index_or, slice_set, take, inl, inr, Option, Some, None, refl, sym, ap, ◌∙◌, zero-add, arith}
use Rattle.std.proofs.lemmas.List.{take_all}
use Rattle.std.proofs.lemmas.Option.{same_Some}
use Rattle.std.proofs.lemmas.Bool.{eq-eqb, le-ltb, lt-ltb, ne_eqb, cases_lt}
use Rattle.std.specs.List.{position}
use Rattle.std.specs.Option.{is_none, option_map}
use Rattle.draw_ops.specs.Objects.{ObjectValue, object_value_of}
use Rattle.draw_ops.specs.declared.objects.Object.{Object}
use Rattle.object_tables.specs.Slots.{IsInOrderFrom, Slots, left_out_from, object_at, with_object, without_object}
use Rattle.object_tables.specs.Store.{places_taken, slots_from}
use Rattle.object_tables.proofs.SlotLemmas.{from_earlier, left_out_is_free, none_before}

-- the indexes are in order
pub in_order : (k : ℕ) (xs : List (Option Object)) → IsInOrderFrom k (slots_from k xs)
in_order k [] = tt
in_order k (None ∷ xs) = from_earlier k (suc k) (slots_from (suc k) xs) (omega arith) (in_order (suc k) xs)
in_order k (Some o ∷ xs) = (omega arith, in_order (suc k) xs)

-- an index below the first has no object
none_below : (k i : ℕ) (xs : List (Option Object)) → i < k → object_at i (slots_from k xs) ≡ None
none_below k i xs b = none_before k i (slots_from k xs) (in_order k xs) b

-- the object at an index is the one at its place
at_from : (xs : List (Option Object)) (k j m : ℕ) (d : Option Object) → k + j ≡ m → j < length xs → object_at m (slots_from k xs) ≡ option_map object_value_of (slice_index_or xs j d)
at_from [] k j m d e b = absurd (omega arith)
at_from (None ∷ xs) k zero m d e b = none_below (suc k) m xs (omega arith)
at_from (Some o ∷ xs) k zero m d e b = rw (eq-eqb m k (omega arith)) refl
at_from (None ∷ xs) k (suc j) m d e b = at_from xs (suc k) j m d (omega arith) (omega arith)
at_from (Some o ∷ xs) k (suc j) m d e b = rw (ne_eqb m k (λ f. omega arith)) (at_from xs (suc k) j m d (omega arith) (omega arith))

pub at_place : (xs : List (Option Object)) (i : ℕ) (d : Option Object) → i < length xs → object_at i (slots_from 0 xs) ≡ option_map object_value_of (slice_index_or xs i d)
at_place xs i d b = at_from xs 0 i i d (omega arith) b

-- no object is behind the end
past_from : (xs : List (Option Object)) (k m : ℕ) → k + length xs ≤ m → object_at m (slots_from k xs) ≡ None
past_from [] k m b = refl
past_from (None ∷ xs) k m b = past_from xs (suc k) m (omega arith)
past_from (Some o ∷ xs) k m b = rw (ne_eqb m k (λ f. omega arith)) (past_from xs (suc k) m (omega arith))

pub past_end : (xs : List (Option Object)) (i : ℕ) → length xs ≤ i → object_at i (slots_from 0 xs) ≡ None
past_end xs i b = past_from xs 0 i (omega arith)

-- an object whose index is below the others comes first
insert_first : (xs : List (Option Object)) (k m : ℕ) (v : ObjectValue) → m < k → with_object m v (slots_from k xs) ≡ (m, v) ∷ slots_from k xs
insert_first [] k m v b = refl
insert_first (None ∷ xs) k m v b = insert_first xs (suc k) m v (omega arith)
insert_first (Some o ∷ xs) k m v b = rw (lt-ltb m k b) refl

-- an object at a free place is one more
filled_from : (xs : List (Option Object)) (k j m : ℕ) (o : Object) → k + j ≡ m → j < length xs → object_at m (slots_from k xs) ≡ None → slots_from k (slice_set xs j (Some o)) ≡ with_object m (object_value_of o) (slots_from k xs)
filled_from [] k j m o e b free = absurd (omega arith)
filled_from (None ∷ xs) k zero m o e b free = let same : k ≡ m = omega arith in rw same (sym (insert_first xs (suc m) m (object_value_of o) (omega arith)))
filled_from (Some p ∷ xs) k zero m o e b free = let taken = rw (eq-eqb m k (omega arith)) at free in cc
filled_from (None ∷ xs) k (suc j) m o e b free = filled_from xs (suc k) j m o (omega arith) (omega arith) free
filled_from (Some p ∷ xs) k (suc j) m o e b free =
    let later = ne_eqb m k (λ f. omega arith) in
    let rest = filled_from xs (suc k) j m o (omega arith) (omega arith) (rw later at free) in
    rw (le-ltb m k (omega arith), later) (ap (λ s. (k, object_value_of p) ∷ s) rest)

pub filled : (xs : List (Option Object)) (i : ℕ) (o : Object) → i < length xs → object_at i (slots_from 0 xs) ≡ None → slots_from 0 (slice_set xs i (Some o)) ≡ with_object i (object_value_of o) (slots_from 0 xs)
filled xs i o b free = filled_from xs 0 i i o (omega arith) b free

-- to take out what isn't there changes nothing
remove_none : (k i : ℕ) (slots : Slots) → IsInOrderFrom k slots → i < k → without_object i slots ≡ slots
remove_none k i [] h b = refl
remove_none k i (slot ∷ slots) h b = rw (ne_eqb i slot.0 (λ e. omega (arith, h.0))) (ap (λ s. slot ∷ s) (remove_none (suc slot.0) i slots h.1 (omega (arith, h.0))))

-- a place that is freed is one object less
emptied_from : (xs : List (Option Object)) (k j m : ℕ) → k + j ≡ m → j < length xs → slots_from k (slice_set xs j None) ≡ without_object m (slots_from k xs)
emptied_from [] k j m e b = absurd (omega arith)
emptied_from (None ∷ xs) k zero m e b = sym (remove_none (suc k) m (slots_from (suc k) xs) (in_order (suc k) xs) (omega arith))
emptied_from (Some p ∷ xs) k zero m e b = rw (eq-eqb m k (omega arith)) refl
emptied_from (None ∷ xs) k (suc j) m e b = emptied_from xs (suc k) j m (omega arith) (omega arith)
emptied_from (Some p ∷ xs) k (suc j) m e b = rw (ne_eqb m k (λ f. omega arith)) (ap (λ s. (k, object_value_of p) ∷ s) (emptied_from xs (suc k) j m (omega arith) (omega arith)))

pub emptied : (xs : List (Option Object)) (i : ℕ) → i < length xs → slots_from 0 (slice_set xs i None) ≡ without_object i (slots_from 0 xs)
emptied xs i b = emptied_from xs 0 i i (omega arith) b

-- free places behind the end are no objects
none_in_free : (k n : ℕ) → slots_from k (replicate n None) ≡ []
none_in_free k zero = refl
none_in_free k (suc n) = none_in_free (suc k) n

longer_from : (xs : List (Option Object)) (k n : ℕ) → slots_from k (xs ++ replicate n None) ≡ slots_from k xs
longer_from [] k n = none_in_free k n
longer_from (None ∷ xs) k n = longer_from xs (suc k) n
longer_from (Some p ∷ xs) k n = ap (λ s. (k, object_value_of p) ∷ s) (longer_from xs (suc k) n)

pub longer : (xs : List (Option Object)) (m n : ℕ) → length xs ≤ m → slots_from 0 (take m xs ++ replicate n None) ≡ slots_from 0 xs
longer xs m n b = rw (take_all m xs b) (longer_from xs 0 n)

pub same_slots : (xs : List (Option Object)) → slots_from 0 xs ≡ slots_from 0 xs
same_slots xs = refl

-- the least free index is the first free place
gap_first : (xs : List (Option Object)) (j k : ℕ) → j < k → left_out_from j (slots_from k xs) ≡ j
gap_first [] j k b = refl
gap_first (None ∷ xs) j k b = gap_first xs j (suc k) (omega arith)
gap_first (Some o ∷ xs) j k b = rw (ne_eqb k j (λ f. omega arith)) refl

least_from : (xs : List (Option Object)) (k : ℕ) → left_out_from k (slots_from k xs) ≡ k + places_taken xs
least_from [] k = omega arith
least_from (None ∷ xs) k = gap_first xs k (suc k) (omega arith) ∙ omega arith
least_from (Some o ∷ xs) k = rw (eq-eqb k k refl, least_from xs (suc k)) (omega arith)

pub least : (xs : List (Option Object)) → places_taken xs ≡ left_out_from 0 (slots_from 0 xs)
least xs = sym (least_from xs 0 ∙ zero-add _)

pub taken_within : (xs : List (Option Object)) → places_taken xs ≤ length xs
taken_within [] = omega arith
taken_within (None ∷ xs) = omega arith
taken_within (Some o ∷ xs) = let rest = taken_within xs in omega arith

-- there are at most as many objects as places
few : (xs : List (Option Object)) (k : ℕ) → length (slots_from k xs) ≤ length xs
few [] k = omega arith
few (None ∷ xs) k = let rest = few xs (suc k) in omega arith
few (Some o ∷ xs) k = let rest = few xs (suc k) in omega arith

-- as many where none is free, and fewer else
full_from : (xs : List (Option Object)) (k : ℕ) → places_taken xs ≡ length xs → length (slots_from k xs) ≡ length xs
full_from [] k h = refl
full_from (None ∷ xs) k h = absurd (omega (arith, h))
full_from (Some o ∷ xs) k h = let rest = full_from xs (suc k) (omega (arith, h)) in omega arith

fewer_from : (xs : List (Option Object)) (k : ℕ) → places_taken xs < length xs → length (slots_from k xs) < length xs
fewer_from [] k h = absurd (omega (arith, h))
fewer_from (None ∷ xs) k h = let rest = few xs (suc k) in omega arith
fewer_from (Some o ∷ xs) k h = let rest = fewer_from xs (suc k) (omega (arith, h)) in omega arith

pub full : (xs : List (Option Object)) → places_taken xs ≡ length xs → length (slots_from 0 xs) ≡ length xs
full xs h = full_from xs 0 h

pub fewer : (xs : List (Option Object)) → places_taken xs < length xs → length (slots_from 0 xs) < length xs
fewer xs h = fewer_from xs 0 h

-- the least free index is free
pub least_is_free : (xs : List (Option Object)) → object_at (places_taken xs) (slots_from 0 xs) ≡ None
least_is_free xs = rw (least xs) (left_out_is_free 0 (slots_from 0 xs) (in_order 0 xs))

-- the first place that is free, if one is, and else the end
pub first_place : (xs : List (Option Object)) (place : ℕ) → position (λ p. is_none p) xs ≡ Some place → place ≡ places_taken xs
first_place xs place h = elim (cases_lt (places_taken xs) (length xs)) [
  | inl b ↦ let is : Some (places_taken xs) ≡ Some place = rw (lt-ltb (places_taken xs) (length xs) b) at h in sym (same_Some _ _ is)
  | inr b ↦ let is : None ≡ Some place = rw (le-ltb (places_taken xs) (length xs) b) at h in cc
]

pub no_place : (xs : List (Option Object)) → position (λ p. is_none p) xs ≡ None → length xs ≡ places_taken xs
no_place xs h = elim (cases_lt (places_taken xs) (length xs)) [
  | inl b ↦ let is : Some (places_taken xs) ≡ None = rw (lt-ltb (places_taken xs) (length xs) b) at h in cc
  | inr b ↦ let within = taken_within xs in omega arith
]
