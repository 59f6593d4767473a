-- What is gathered from records for a certificate, record by record.
use Rattle.std.specs.Prelude.{◌≡◌, ℕ, List, [], ◌∷◌, length, map, Option, Some, None}
use Rattle.std.specs.Int.{int_max, int_min}
use Rattle.std.specs.List.{All}
use Rattle.mapping.specs.Boxes.{point_box, no_box}
use Rattle.mapping.specs.Surface.{Surface}
use Rattle.mapping.specs.declared.geometry.Point.{Point}
use Rattle.mapping.specs.declared.geometry.Rect.{Rect}
use Rattle.draw_ops.specs.Content.{Content}
use Rattle.dc_stack.specs.Drawing.{Drawing, drawing_nib, drawing_points}
use Rattle.dc_stack.specs.MachineState.{MachineState}
use Rattle.preflight_cert.specs.After.{needs_after, notes_after, uses_after}
use Rattle.preflight_cert.specs.Budget.{drawing_cells}
use Rattle.preflight_cert.specs.DraftOf.{Adds}
use Rattle.preflight_cert.specs.Drawings.{NumberedDrawing, drawings_of}
use Rattle.preflight_cert.specs.Entries.{budget_of}
use Rattle.preflight_cert.specs.Refusal.{ReportsStop}
use Rattle.preflight_cert.specs.Stop.{stop_of}
use Rattle.preflight_cert.specs.TextLaws.{IsEntry}
use Rattle.preflight_cert.specs.declared.draft.Draft.{Draft}
use Rattle.preflight_cert.specs.declared.certificate_entry.Entry.{Entry}
use Rattle.preflight_cert.specs.declared.refusal.Refusal.{Refusal}
use Rattle.preflight_cert.specs.declared.version.Version.TheVariants.{Mpc2}
use Rattle.preflight_cert.specs.declared.entry_check.Totals.{Totals}

-- the bounding box of two boxes
abbrev pub box_over : Rect → Rect → Rect
box_over first second = record {
  l = int_min first.l second.l;
  t = int_min first.t second.t;
  r = int_max first.r second.r;
  b = int_max first.b second.b;
}

-- the bounding box of a box and points
abbrev pub box_around : Rect → List Point → Rect
box_around box [] = box
box_around box (point ∷ points) = box_around (box_over box (point_box point)) points

-- the bounding box of points
abbrev pub bounding_box : List Point → Rect
bounding_box [] = no_box
bounding_box (point ∷ points) = box_around (point_box point) points

-- the entry for a drawing on a surface, with its bounding box and its nib
abbrev pub least_entry : NumberedDrawing → Surface → Entry
least_entry one s = record { number = one.number; bounds = bounding_box (drawing_points one.drawing); nib = drawing_nib one.drawing s }

-- the entries for drawings
abbrev pub least_entries : List NumberedDrawing → Surface → List Entry
least_entries drawings s = map (λ (one : NumberedDrawing). least_entry one s) drawings

-- the most pixels that a run writes, by these entries
abbrev pub least_budget : List NumberedDrawing → Surface → ℕ
least_budget drawings s = budget_of drawings (least_entries drawings s) s

-- a drawing of the record with this number
abbrev numbered : ℕ → Drawing → NumberedDrawing
numbered number drawing = record { number = number; drawing = drawing }

-- the entry for a record, if it draws
abbrev pub entry_if_drawn : ℕ → Option Drawing → Surface → List Entry
entry_if_drawn number None s = []
entry_if_drawn number (Some drawing) s = least_entry (numbered number drawing) s ∷ []

-- the most pixels that a run writes for a record, by its entry
abbrev pub least_drawing_budget : Option Drawing → Surface → ℕ
least_drawing_budget None s = 0
least_drawing_budget (Some drawing) s = drawing_cells drawing (drawing_nib drawing s) (bounding_box (drawing_points drawing)) s

-- no step stops, the entries for all of them were appended, and the needs and the totals are theirs, added to earlier
-- notes
pub record Gathers (content : Content) (old : MachineState) (before : Draft) (noted : List ℕ) (totals : Totals) (new : MachineState) (after : Draft) : Type 0 where
  pub unstopped : stop_of content old.state old.surface ≡ None
  pub entries : Adds before after (least_entries (drawings_of content.steps old.state) old.surface)
  pub fit : All (IsEntry Mpc2) (least_entries (drawings_of content.steps old.state) old.surface)
  pub is_budget : totals.writes ≡ least_budget (drawings_of content.steps old.state) old.surface
  pub records : totals.records ≡ length content.steps
  pub notes : totals.notes.counts ≡ notes_after content.steps noted
  pub needs : new.needs ≡ needs_after content.steps old.state old.needs
  pub uses : totals.uses ≡ uses_after content.steps old.state

-- the content stops, and the error says where
abbrev pub StopsGathering : Content → MachineState → Refusal → Type 0
StopsGathering content old r = ReportsStop (stop_of content old.state old.surface) r
