-- How objects are added to a table and removed from it.
use Rattle.std.specs.Prelude.{◌≡◌, ℕ, ◌<◌, ◌≤◌, nat_le, nat_lt, Bool, ◌&&◌, if◌then◌else◌, length, Option, Some, None, ◌⊎◌}
use Rattle.std.specs.Option.{option_map, unwrap_or}
use Rattle.draw_ops.specs.Objects.{ObjectValue, index_of, object_value_of}
use Rattle.draw_ops.specs.declared.fault.Fault.{Fault}
use Rattle.draw_ops.specs.declared.fault.Fault.TheVariants.{OutOfMemory, Record}
use Rattle.draw_ops.specs.declared.objects.Handle.{Handle}
use Rattle.draw_ops.specs.declared.objects.Object.{Object}
use Rattle.draw_ops.specs.declared.record_fault.RecordFault.{RecordFault}
use Rattle.draw_ops.specs.declared.record_fault.RecordFault.TheVariants.{HandleTaken, NoSuchHandle, TableFull}
use Rattle.object_tables.specs.Slots.{IsInOrder, IsLowestFree, Slots, is_taken, lowest_free, with_object, without_object}

-- How a new object gets its index: the lowest free one, whatever its record says (WMF), or the one that its record
-- names, from 1 to below this limit (EMF).
pub data TableKind : Type 0 where
  by_lowest_free : TableKind
  by_given_index : ℕ → TableKind

-- the kind of a file's table: an EMF header gives the number of indexes ([MS-EMF] 2.3.4.2), a WMF header doesn't
abbrev pub table_kind_of : Option ℕ → TableKind
table_kind_of None = by_lowest_free
table_kind_of (Some handles) = by_given_index handles

-- a table as callers see it: its objects, how a new one gets its index, and the index below which no memory is needed
pub record TableState : Type 0 where
  pub slots : Slots
  pub kind : TableKind
  pub capacity : ℕ

-- the most objects of a table by the lowest free index
abbrev pub lowest_free_limit : ℕ
lowest_free_limit = 1024

-- an index that EMF records may name: 0 is that of the file itself ([MS-EMF] 3.1.1.1)
abbrev pub may_be_given : ℕ → ℕ → Bool
may_be_given limit index = nat_le 1 index && nat_lt index limit

-- the fault of creating an object at the index that its record names, if indexes are below a limit
abbrev given_fault : ℕ → Option ℕ → Slots → Option RecordFault
given_fault limit None slots = Some NoSuchHandle
given_fault limit (Some index) slots =
    if may_be_given limit index then (if is_taken index slots then Some HandleTaken else None) else Some NoSuchHandle

-- the fault of creating an object
abbrev pub create_fault : TableKind → Option ℕ → Slots → Option RecordFault
create_fault by_lowest_free at slots = if nat_lt (length slots) lowest_free_limit then None else Some TableFull
create_fault (by_given_index limit) at slots = given_fault limit at slots

-- the index of a new object
abbrev pub created_index : TableKind → Option ℕ → Slots → ℕ
created_index by_lowest_free at slots = lowest_free slots
created_index (by_given_index limit) at slots = unwrap_or at 0

-- the indexes of a table are below this number
abbrev pub index_bound : TableKind → ℕ
index_bound by_lowest_free = lowest_free_limit
index_bound (by_given_index limit) = limit

-- an object was created: there was no fault, and it is at its index
pub record HasCreated (at : Option ℕ) (object : ObjectValue) (old : TableState) (made : ℕ) (new : TableState) : Type 0 where
  pub no_fault : create_fault old.kind at old.slots ≡ None
  pub index : made ≡ created_index old.kind at old.slots
  pub slots : new.slots ≡ with_object (created_index old.kind at old.slots) object old.slots

-- an object was created, with this handle
abbrev pub HasMade : Option Handle → Object → TableState → TableState → Handle → Type 0
HasMade at object old new handle = HasCreated (index_of at) (object_value_of object) old handle.0 new

-- the memory for an object couldn't be allocated: there is no other fault, but its index exceeds the capacity
pub record WantsSlot (at : Option ℕ) (table : TableState) (fault : Fault) : Type 0 where
  pub no_fault : create_fault table.kind at table.slots ≡ None
  pub no_capacity : table.capacity ≤ created_index table.kind at table.slots
  pub memory : fault ≡ OutOfMemory

-- an object isn't created: because of the first fault, or because an allocation failed
abbrev pub RejectsCreate : Option ℕ → TableState → Fault → Type 0
RejectsCreate at table fault = option_map Record (create_fault table.kind at table.slots) ≡ Some fault ⊎ WantsSlot at table fault

-- the fault of removing an object
abbrev pub remove_fault : ℕ → Slots → Option RecordFault
remove_fault index slots = if is_taken index slots then None else Some NoSuchHandle

-- the object at an index was removed
abbrev pub HasRemoved : ℕ → TableState → TableState → Type 0
HasRemoved index old new = new.slots ≡ without_object index old.slots

-- the lowest free index of sorted slots is free, and each one below it is in use
abbrev pub LowestFreeIsLeast : Type 0
LowestFreeIsLeast = (slots : Slots) → IsInOrder slots → IsLowestFree (lowest_free slots) slots

-- the index of a new object is below the table's bound
abbrev pub CreatedIndexIsBelowBound : Type 0
CreatedIndexIsBelowBound =
    (kind : TableKind) (at : Option ℕ) (slots : Slots)
    → create_fault kind at slots ≡ None → created_index kind at slots < index_bound kind
