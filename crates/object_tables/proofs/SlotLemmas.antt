-- The least free index of slots in order.
use Rattle.std.proofs.Common.{◌≡◌, ℕ, suc, ◌+◌, ◌<◌, ◌≤◌, Bool, true, false, cond, nat_le, nat_lt, [], ◌∷◌, length, inl, inr, Some, None, IsSome, refl, sym, ap, ◌∙◌, subst, arith}
use Rattle.std.proofs.lemmas.Bool.{and_parts, ltb-true, eq-eqb, ne_eqb, cases_eq}
use Rattle.draw_ops.specs.declared.record_fault.RecordFault.{RecordFault}
use Rattle.draw_ops.specs.declared.record_fault.RecordFault.TheVariants.{HandleTaken, NoSuchHandle, TableFull}
use Rattle.object_tables.specs.Slots.{IsInOrderFrom, Slots, is_taken, left_out_from, object_at}
use Rattle.object_tables.specs.Table.{CreatedIndexIsBelowBound, LowestFreeIsLeast, by_given_index, by_lowest_free, may_be_given, lowest_free_limit}

-- an index below all of them has no object
pub none_before : (k i : ℕ) (slots : Slots) → IsInOrderFrom k slots → i < k → object_at i slots ≡ None
none_before k i [] h b = refl
none_before k i (slot ∷ slots) h b =
    rw (ne_eqb i slot.0 (λ e. omega (arith, h.0))) (none_before (suc slot.0) i slots h.1 (omega (arith, h.0)))

-- indexes that begin later are in order from an earlier one
pub from_earlier : (j k : ℕ) (slots : Slots) → j ≤ k → IsInOrderFrom k slots → IsInOrderFrom j slots
from_earlier j k [] b h = h
from_earlier j k (slot ∷ slots) b h = (omega (arith, h.0), h.1)

-- the least number that they leave out isn't below the first
pub left_out_above : (k : ℕ) (slots : Slots) → k ≤ left_out_from k slots
left_out_above k [] = omega arith
left_out_above k (slot ∷ slots) = elim (cases_eq slot.0 k) [
  | inl e ↦ let above = left_out_above (suc k) slots in rw (eq-eqb slot.0 k e) (omega arith)
  | inr ne ↦ rw (ne_eqb slot.0 k ne) (omega arith)
]

-- the least number that they leave out is free
pub left_out_is_free : (k : ℕ) (slots : Slots) → IsInOrderFrom k slots → object_at (left_out_from k slots) slots ≡ None
left_out_is_free k [] h = refl
left_out_is_free k (slot ∷ slots) h = elim (cases_eq slot.0 k) [
  | inl e ↦
      let next = subst (λ (n : ℕ). IsInOrderFrom (suc n) slots) e h.1 in
      let free = left_out_is_free (suc k) slots next in
      let above = left_out_above (suc k) slots in
      let goes_on : left_out_from k (slot ∷ slots) ≡ left_out_from (suc k) slots = rw (eq-eqb slot.0 k e) refl in
      let there : object_at (left_out_from (suc k) slots) (slot ∷ slots) ≡ None = rw (ne_eqb (left_out_from (suc k) slots) slot.0 (λ f. omega (arith, above))) free in
      ap (λ (i : ℕ). object_at i (slot ∷ slots)) goes_on ∙ there
  | inr ne ↦
      let ends : left_out_from k (slot ∷ slots) ≡ k = rw (ne_eqb slot.0 k ne) refl in
      let there : object_at k (slot ∷ slots) ≡ None = rw (ne_eqb k slot.0 (λ e. ne (sym e))) (none_before (suc slot.0) k slots h.1 (omega (arith, h.0))) in
      ap (λ (i : ℕ). object_at i (slot ∷ slots)) ends ∙ there
]

-- and each index below it, from the first on, is taken
taken_below : (k : ℕ) (slots : Slots) → IsInOrderFrom k slots → (i : ℕ) → k ≤ i → i < left_out_from k slots → IsSome (object_at i slots)
taken_below k [] h i a b = absurd (omega (arith, a, b))
taken_below k (slot ∷ slots) h i a b = elim (cases_eq slot.0 k) [
  | inl e ↦
      let next = subst (λ (n : ℕ). IsInOrderFrom (suc n) slots) e h.1 in
      elim (cases_eq i slot.0) [
        | inl same ↦ rw (eq-eqb i slot.0 same) refl
        | inr other ↦
            let later : i < left_out_from (suc k) slots = rw (eq-eqb slot.0 k e) at b in
            rw (ne_eqb i slot.0 other) (taken_below (suc k) slots next i (omega (arith, a)) later)
      ]
  | inr ne ↦ let none : i < k = rw (ne_eqb slot.0 k ne) at b in absurd (omega (arith, a, none))
]

pub lowest_free_is_least : LowestFreeIsLeast
lowest_free_is_least slots h = record {
  free = left_out_is_free 0 slots h;
  taken_below = λ i b. taken_below 0 slots h i (omega arith) b;
}

-- there are as many indexes below the least that is left out as objects, or fewer
left_out_within : (k : ℕ) (slots : Slots) → left_out_from k slots ≤ k + length slots
left_out_within k [] = omega arith
left_out_within k (slot ∷ slots) = elim (cases_eq slot.0 k) [
  | inl e ↦ let rest = left_out_within (suc k) slots in rw (eq-eqb slot.0 k e) (omega arith)
  | inr ne ↦ rw (ne_eqb slot.0 k ne) (omega arith)
]

-- what a test lets through
passed : (a b : Bool) (first second : RecordFault) → cond a (cond b (Some first) None) (Some second) ≡ None → a ≡ true
passed true b first second h = refl
passed false b first second h = cc

few_enough : (few : Bool) → cond few None (Some TableFull) ≡ None → few ≡ true
few_enough true h = refl
few_enough false h = cc

pub created_index_is_below_bound : CreatedIndexIsBelowBound
created_index_is_below_bound by_lowest_free at slots h =
    let few = ltb-true (length slots) lowest_free_limit (few_enough (nat_lt (length slots) lowest_free_limit) h) in
    let within = left_out_within 0 slots in
    omega (arith, few, within)
created_index_is_below_bound (by_given_index limit) None slots h = cc
created_index_is_below_bound (by_given_index limit) (Some index) slots h =
    let given = passed (may_be_given limit index) (is_taken index slots) HandleTaken NoSuchHandle h in
    ltb-true index limit (and_parts (nat_le 1 index) (nat_lt index limit) given).1
