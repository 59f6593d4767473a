-- A table's objects stay sorted by index.
use Rattle.std.specs.Prelude.{ℕ, []}
use Rattle.draw_ops.specs.Objects.{ObjectValue}
use Rattle.object_tables.specs.Slots.{IsInOrder, Slots, with_object, without_object}

-- No objects are sorted, and sorted objects stay so when one is added, at any index, or removed.
pub record OrderLaws : Type 0 where
  pub none : IsInOrder []
  pub with_one : (index : ℕ) (object : ObjectValue) (slots : Slots) → IsInOrder slots → IsInOrder (with_object index object slots)
  pub without_one : (index : ℕ) (slots : Slots) → IsInOrder slots → IsInOrder (without_object index slots)
