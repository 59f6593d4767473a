-- Saved states, and which of them comes back.
use Rattle.std.proofs.Common.{◌≡◌, ℕ, ℤ, ◌<◌, List, length, map, take, slice_index_or, Some, None, refl, sym, ap, ◌∙◌}
use Rattle.std.proofs.lemmas.List.{length-map, take-map}
use Rattle.std.proofs.lemmas.List.{get_or-map}
use Rattle.dc_stack.specs.SavedStates.{after_restoring, restore_fault, saved_place}
use Rattle.dc_stack.specs.State.{State}
use Rattle.dc_stack.specs.Values.{dc_value}
use Rattle.dc_stack.specs.declared.dc.Dc.{Dc}

-- the state after the state at a place came back
restored_at : (items : List Dc) (place : ℕ) (found : Dc) (state : State) → state.saved ≡ map dc_value items → place < length items → found ≡ slice_index_or items place found → record { dc = dc_value found; slots = state.slots; table_kind = state.table_kind; saved = map dc_value (take place items); path = state.path; rules = state.rules; held_deletions = state.held_deletions } ≡ after_restoring (Some place) state
restored_at items place found state same within there =
    let back : slice_index_or state.saved place state.dc ≡ dc_value found = ap (λ saved. slice_index_or saved place state.dc) same ∙ get_or-map dc_value items place found state.dc within ∙ ap dc_value (sym there) in
    let rest : take place state.saved ≡ map dc_value (take place items) = ap (take place) same ∙ take-map dc_value place items in
    rw (back, rest) refl

-- a place among them has no fault
pub may_restore : (items : List Dc) (which : ℤ) (count place : ℕ) → count ≡ length items → Some place ≡ saved_place which count → restore_fault (saved_place which (length (map dc_value items))) ≡ None
may_restore items which count place same there = rw (length-map items dc_value, ← same, ← there) refl

-- the state after the state that a number names came back
pub restored : (items left : List Dc) (which : ℤ) (count place : ℕ) (found : Dc) (state : State) → state.saved ≡ map dc_value items → count ≡ length items → Some place ≡ saved_place which count → place < count → found ≡ slice_index_or items place found → left ≡ take place items → record { dc = dc_value found; slots = state.slots; table_kind = state.table_kind; saved = map dc_value left; path = state.path; rules = state.rules; held_deletions = state.held_deletions } ≡ after_restoring (saved_place which (length state.saved)) state
restored items left which count place found state same counted there within at rest =
    let named : Some place ≡ saved_place which (length state.saved) = rw (same, length-map items dc_value, ← counted) there in
    rw (← named, rest) (restored_at items place found state same (rw (← counted) within) at)
