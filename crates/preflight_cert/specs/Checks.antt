-- The results of checking steps against entries.
use Rattle.std.specs.Prelude.{◌≡◌, ℕ, List, length, None, Result, Ok, Err}
use Rattle.draw_ops.specs.Content.{Content}
use Rattle.dc_stack.specs.MachineState.{MachineState}
use Rattle.preflight_cert.specs.After.{needs_after, notes_after, uses_after}
use Rattle.preflight_cert.specs.Checked.{check_of, left_over}
use Rattle.preflight_cert.specs.Drawings.{drawings_of}
use Rattle.preflight_cert.specs.Entries.{budget_of}
use Rattle.preflight_cert.specs.Refusal.{ReportsStop}
use Rattle.preflight_cert.specs.declared.certificate_entry.Entry.{Entry}
use Rattle.preflight_cert.specs.declared.refusal.Refusal.{Refusal}
use Rattle.preflight_cert.specs.declared.entry_check.Totals.{Totals}

-- the entries fit all steps of a content, and the needs and the totals are theirs, added to earlier notes
pub record Checks (content : Content) (old : MachineState) (entries : List Entry) (noted : List ℕ) (totals : Totals) (new : MachineState) : Type 0 where
  pub in_order : check_of content old.state old.surface entries ≡ None
  pub is_budget : totals.writes ≡ budget_of (drawings_of content.steps old.state) entries old.surface
  pub records : totals.records ≡ length content.steps
  pub notes : totals.notes.counts ≡ notes_after content.steps noted
  pub needs : new.needs ≡ needs_after content.steps old.state old.needs
  pub uses : totals.uses ≡ uses_after content.steps old.state

-- the error is the first fault of the steps or of the entries
abbrev pub StopsCheck : Content → MachineState → List Entry → Refusal → Type 0
StopsCheck content old entries r = ReportsStop (check_of content old.state old.surface entries) r

-- no entry remains, and the totals are these
pub record IsCheckedEnd (count : ℕ) (entries : List Entry) (totals reported : Totals) : Type 0 where
  pub none_left : left_over count entries ≡ None
  pub same : reported ≡ totals

-- the result after the last step and this many records
abbrev pub EndsCheck : ℕ → List Entry → Totals → Result Totals Refusal → Type 0
EndsCheck count entries totals (Ok reported) = IsCheckedEnd count entries totals reported
EndsCheck count entries totals (Err r) = ReportsStop (left_over count entries) r
