-- Objects in the order of their indexes, with one more and without one.
use Rattle.std.proofs.Common.{ℕ, suc, ◌≤◌, [], ◌∷◌, inl, inr, arith}
use Rattle.std.proofs.lemmas.Bool.{cases_eq, cases_lt, eq-eqb, le-ltb, lt-ltb, ne_eqb}
use Rattle.draw_ops.specs.Objects.{ObjectValue}
use Rattle.object_tables.specs.OrderLaws.{OrderLaws}
use Rattle.object_tables.specs.Slots.{IsInOrderFrom, Slots, with_object, without_object}
use Rattle.object_tables.proofs.SlotLemmas.{from_earlier}

with_one : (k index : ℕ) (object : ObjectValue) (slots : Slots) → k ≤ index → IsInOrderFrom k slots → IsInOrderFrom k (with_object index object slots)
with_one k index object [] b h = (b, tt)
with_one k index object (slot ∷ slots) b h = elim (cases_lt index slot.0) [
  | inl before ↦ rw (lt-ltb index slot.0 before) (b, (before, h.1))
  | inr after ↦ elim (cases_eq index slot.0) [
    | inl same ↦ rw (le-ltb index slot.0 after, eq-eqb index slot.0 same) h
    | inr other ↦ rw (le-ltb index slot.0 after, ne_eqb index slot.0 other) (h.0, with_one (suc slot.0) index object slots (omega (arith, after, other)) h.1)
  ]
]

without_one : (k index : ℕ) (slots : Slots) → IsInOrderFrom k slots → IsInOrderFrom k (without_object index slots)
without_one k index [] h = tt
without_one k index (slot ∷ slots) h = elim (cases_eq index slot.0) [
  | inl same ↦ rw (eq-eqb index slot.0 same) (from_earlier k (suc slot.0) slots (omega (arith, h.0)) h.1)
  | inr other ↦ rw (ne_eqb index slot.0 other) (h.0, without_one (suc slot.0) index slots h.1)
]

pub order_laws : OrderLaws
order_laws = record {
  none = tt;
  with_one = λ index object slots h. with_one 0 index object slots (omega arith) h;
  without_one = λ index slots h. without_one 0 index slots h;
}
