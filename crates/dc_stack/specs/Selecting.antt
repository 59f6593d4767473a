-- Selecting objects, and which are in use.
use Rattle.std.specs.Prelude.{ℕ, Bool, false, ◌||◌, ◌&&◌, not, ◌==◌, if◌then◌else◌, ◌∷◌, Option, Some, None}
use Rattle.std.specs.List.{list_any}
use Rattle.draw_ops.specs.declared.record_fault.RecordFault.{RecordFault}
use Rattle.draw_ops.specs.declared.record_fault.RecordFault.TheVariants.{HeldObject, NoSuchHandle, WrongKind}
use Rattle.draw_ops.specs.Objects.{ObjectValue, brush_object, font_object, palette_object, pen_object}
use Rattle.draw_ops.specs.RuleSets.{allows_held_deletion}
use Rattle.object_tables.specs.Slots.{Slots, is_taken, object_at}
use Rattle.dc_stack.specs.State.{DcValue, Selections, State}
use Rattle.dc_stack.specs.StockObjects.{is_stock_index, stock_object}

-- the object with an index: a stock object, or one in the table
abbrev pub named_object : ℕ → Slots → Option ObjectValue
named_object index slots = if is_stock_index index then stock_object index else object_at index slots

-- the index that is stored for a selected object; none for a stock object
abbrev pub own_index : ℕ → Option ℕ
own_index index = if is_stock_index index then None else Some index

-- the fault of selecting by SELECTOBJECT, which accepts pens, brushes and fonts
abbrev pub object_fault : Option ObjectValue → Option RecordFault
object_fault None = Some NoSuchHandle
object_fault (Some (pen_object pen)) = None
object_fault (Some (brush_object brush)) = None
object_fault (Some font_object) = None
object_fault (Some palette_object) = Some WrongKind

-- the fault of selecting by SELECTPALETTE, which accepts palettes
abbrev pub palette_fault : Option ObjectValue → Option RecordFault
palette_fault None = Some NoSuchHandle
palette_fault (Some (pen_object pen)) = Some WrongKind
palette_fault (Some (brush_object brush)) = Some WrongKind
palette_fault (Some font_object) = Some WrongKind
palette_fault (Some palette_object) = None

-- the selected objects after another is selected, which replaces the one of its kind
abbrev pub with_object_selected : Option ℕ → ObjectValue → Selections → Selections
with_object_selected index (pen_object pen) s = record {
  pen = record { object = pen; index = index };
  brush = s.brush;
  font = s.font;
  palette = s.palette;
}
with_object_selected index (brush_object brush) s = record {
  pen = s.pen;
  brush = record { object = brush; index = index };
  font = s.font;
  palette = s.palette;
}
with_object_selected index font_object s = record { pen = s.pen; brush = s.brush; font = index; palette = s.palette }
with_object_selected index palette_object s = record { pen = s.pen; brush = s.brush; font = s.font; palette = index }

-- the selected objects after the one with an index is selected
abbrev pub after_selecting : ℕ → Option ObjectValue → Selections → Selections
after_selecting index None s = s
after_selecting index (Some object) s = with_object_selected (own_index index) object s

-- a stored index is this one
abbrev pub is_index_of : ℕ → Option ℕ → Bool
is_index_of index None = false
is_index_of index (Some kept) = kept == index

-- a selected object has this index
abbrev pub selects : ℕ → Selections → Bool
selects index s = is_index_of index s.pen.index || is_index_of index s.brush.index || is_index_of index s.font || is_index_of index s.palette

-- an index is in use: the state or a saved state has it selected
abbrev pub is_in_use : ℕ → State → Bool
is_in_use index state = list_any (λ (dc : DcValue). selects index dc.selected) (state.dc ∷ state.saved)

-- the fault of deleting an object: the table doesn't have it, or it is in use and the rules don't allow that
abbrev pub delete_fault : ℕ → State → Option RecordFault
delete_fault index state =
    if is_taken index state.slots then (if is_in_use index state && not (allows_held_deletion state.rules) then Some HeldObject else None)
    else Some NoSuchHandle
