-- A table's objects: a finite map from index to object.
use Rattle.std.specs.Prelude.{◌≡◌, ⊤, ℕ, suc, ◌<◌, ◌≤◌, ◌==◌, Bool, if◌then◌else◌, List, [], ◌∷◌, Option, None, IsSome, is_some, Result}
use Rattle.std.specs.BTreeMap.{insert_entry}
use Rattle.std.specs.Map.{lookup, remove_entry}
use Rattle.std.specs.Option.{ok_or}
use Rattle.std.specs.Ordering.{nat_cmp}
use Rattle.draw_ops.specs.Objects.{ObjectValue}
use Rattle.draw_ops.specs.declared.record_fault.RecordFault.{RecordFault}
use Rattle.draw_ops.specs.declared.record_fault.RecordFault.TheVariants.{NoSuchHandle}

-- the objects with their indexes, sorted by index, each index once
abbrev pub Slots : Type 0
Slots = List (ℕ × ObjectValue)

-- the indexes are sorted, each occurs once, and none is below k
abbrev pub IsInOrderFrom : ℕ → Slots → Type 0
IsInOrderFrom k [] = ⊤
IsInOrderFrom k (slot ∷ slots) = (k ≤ slot.0) × IsInOrderFrom (suc slot.0) slots

-- the indexes are sorted, and each occurs once
abbrev pub IsInOrder : Slots → Type 0
IsInOrder slots = IsInOrderFrom 0 slots

-- the object at an index, if there is one
abbrev pub object_at : ℕ → Slots → Option ObjectValue
object_at index slots = lookup (λ k. index == k) slots

-- the object at an index, or the fault if there is none
abbrev pub object_or_fault : ℕ → Slots → Result ObjectValue RecordFault
object_or_fault index slots = ok_or (object_at index slots) NoSuchHandle

-- an object has this index
abbrev pub is_taken : ℕ → Slots → Bool
is_taken index slots = is_some (object_at index slots)

-- with this object added at a free index
abbrev pub with_object : ℕ → ObjectValue → Slots → Slots
with_object index object slots = insert_entry nat_cmp slots index object

-- without the object at an index
abbrev pub without_object : ℕ → Slots → Slots
without_object index slots = remove_entry (λ k. index == k) slots

-- the lowest number, from k on, that isn't an index; the indexes are sorted, and none is below k
abbrev pub left_out_from : ℕ → Slots → ℕ
left_out_from k [] = k
left_out_from k (slot ∷ slots) = if slot.0 == k then left_out_from (suc k) slots else k

-- the lowest free index
abbrev pub lowest_free : Slots → ℕ
lowest_free slots = left_out_from 0 slots

-- the index is free, and each one below it is in use
pub record IsLowestFree (index : ℕ) (slots : Slots) : Type 0 where
  pub free : object_at index slots ≡ None
  pub taken_below : (other : ℕ) → other < index → IsSome (object_at other slots)
