-- The entries of a certificate, and how they cover drawings.
use Rattle.std.specs.Prelude.{◌≡◌, ℕ, ◌+◌, Bool, ◌&&◌, ◌==◌, nat_le, if◌then◌else◌, int_le, List, [], ◌∷◌, Option, Some, None}
use Rattle.std.specs.List.{All, list_all}
use Rattle.mapping.specs.Boxes.{HasPoint}
use Rattle.mapping.specs.Nibs.{CoversNib}
use Rattle.mapping.specs.Surface.{Surface}
use Rattle.mapping.specs.declared.geometry.Point.{Point}
use Rattle.mapping.specs.declared.geometry.Rect.{Rect}
use Rattle.mapping.specs.declared.nib.Nib.{Nib}
use Rattle.draw_ops.specs.declared.record_fault.RecordFault.{RecordFault}
use Rattle.draw_ops.specs.declared.record_fault.RecordFault.TheVariants.{BoxTooSmall, NibTooSmall, WrongEntry}
use Rattle.dc_stack.specs.Drawing.{Drawing, drawing_nib, drawing_points}
use Rattle.preflight_cert.specs.Budget.{drawing_cells}
use Rattle.preflight_cert.specs.Drawings.{NumberedDrawing}
use Rattle.preflight_cert.specs.declared.certificate_entry.Entry.{Entry}

-- an entry covers a drawing on a surface: its number is that of the drawing's record, its box contains each of the
-- drawing's points, and its nib is at least as large as the drawing's
pub record Covers (entry : Entry) (one : NumberedDrawing) (s : Surface) : Type 0 where
  pub number : entry.number ≡ one.number
  pub box : All (HasPoint entry.bounds) (drawing_points one.drawing)
  pub nib : CoversNib entry.nib (drawing_nib one.drawing s)

-- there is exactly one entry for each drawing, in order, and it covers it
abbrev pub AreCovered : List NumberedDrawing → List Entry → Surface → Type 0
AreCovered [] [] s = Unit
AreCovered [] (entry ∷ entries) s = ⊥
AreCovered (one ∷ later) [] s = ⊥
AreCovered (one ∷ later) (entry ∷ entries) s = Covers entry one s × AreCovered later entries s

-- the most pixels that drawings write, by the boxes and the nibs of their entries
abbrev pub budget_of : List NumberedDrawing → List Entry → Surface → ℕ
budget_of [] entries s = 0
budget_of (one ∷ later) [] s = 0
budget_of (one ∷ later) (entry ∷ entries) s = drawing_cells one.drawing entry.nib entry.bounds s + budget_of later entries s

-- whether a box contains a point of the plane; right and bottom are inclusive
abbrev pub has_point : Rect → Point → Bool
has_point box point = (int_le box.l point.x && int_le point.x box.r) && (int_le box.t point.y && int_le point.y box.b)

-- a box contains each of some points
abbrev pub covers : Rect → List Point → Bool
covers box points = list_all (has_point box) points

-- a nib has at least as many columns and rows as another
abbrev pub covers_nib : Nib → Nib → Bool
covers_nib nib other = nat_le other.x nib.x && nat_le other.y nib.y

-- an entry's box lacks a point of a drawing, or its nib is smaller than the drawing's
abbrev pub extent_fault : Entry → Drawing → Surface → Option RecordFault
extent_fault entry drawing s =
    if covers entry.bounds (drawing_points drawing) then (if covers_nib entry.nib (drawing_nib drawing s) then None else Some NibTooSmall)
    else Some BoxTooSmall

-- the fault of the next entry for a drawing: it is for another record, or there is none, or it doesn't cover the
-- drawing
abbrev pub drawing_fault : ℕ → Drawing → List Entry → Surface → Option RecordFault
drawing_fault number drawing [] s = Some WrongEntry
drawing_fault number drawing (entry ∷ entries) s = if entry.number == number then extent_fault entry drawing s else Some WrongEntry

-- the fault of the next entry, if an operation draws
abbrev pub entry_fault : ℕ → Option Drawing → List Entry → Surface → Option RecordFault
entry_fault number None entries s = None
entry_fault number (Some drawing) entries s = drawing_fault number drawing entries s

-- the remaining entries after a drawing takes one
abbrev pub entries_after : Option Drawing → List Entry → List Entry
entries_after None entries = entries
entries_after (Some drawing) [] = []
entries_after (Some drawing) (entry ∷ entries) = entries

-- the most pixels that a drawing writes, if there is one, by the next entry
abbrev pub drawing_budget : Option Drawing → List Entry → Surface → ℕ
drawing_budget None entries s = 0
drawing_budget (Some drawing) [] s = 0
drawing_budget (Some drawing) (entry ∷ entries) s = drawing_cells drawing entry.nib entry.bounds s
