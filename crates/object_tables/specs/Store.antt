-- The objects of a list of slots, by their positions.
use Rattle.std.specs.Prelude.{ℕ, suc, List, [], ◌∷◌, Option, Some, None, is_none, not}
use Rattle.std.specs.List.{prefix_len}
use Rattle.draw_ops.specs.Objects.{object_value_of}
use Rattle.draw_ops.specs.declared.objects.Object.{Object}
use Rattle.object_tables.specs.Slots.{Slots}

-- the objects in the list, whose first slot has index k
abbrev pub slots_from : ℕ → List (Option Object) → Slots
slots_from k [] = []
slots_from k (None ∷ rest) = slots_from (suc k) rest
slots_from k (Some object ∷ rest) = (k, object_value_of object) ∷ slots_from (suc k) rest

-- the objects of a store, its number of slots, and its capacity
pub record StoreState : Type 0 where
  pub slots : Slots
  pub places : ℕ
  pub capacity : ℕ

-- how many slots come before the first free one
abbrev pub places_taken : List (Option Object) → ℕ
places_taken places = prefix_len (λ place. not (is_none place)) places
